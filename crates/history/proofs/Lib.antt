-- Demand 3: the theorem over any run, the local laws of the rules, and the statements for a reader (Demand3).
pub mod Theorem
pub mod Path
pub mod Bounds
pub mod Bits
pub mod Entries
pub mod Accepted
pub mod Local
pub mod Bytes
pub mod Demand3
pub mod Corollaries
pub mod Sequences
pub mod Example
