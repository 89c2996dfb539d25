-- The rules of document 01, in its order; before them the words that they are said with, and after them those with which a
-- contract speaks of what is lent.
pub mod Below
pub mod Numbers
pub mod Sound
pub mod Refusals
pub mod Instructions
pub mod Blocks
pub mod Calls
pub mod Bench
pub mod Lent
