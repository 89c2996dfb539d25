-- What the contracts are said with: first those of the public calls (`Answers`, `Runs`), then those of the inner functions.
pub mod Answers
pub mod Runs
pub mod Ready
pub mod Leaves
