-- Laws of the monitor: its searches and judges, what the tests before them say, and then its calls.
pub mod Searching
pub mod Judging
pub mod Readiness
pub mod Applying
pub mod Stepping
pub mod Beginning
pub mod Locating
pub mod Executing
pub mod Running
pub mod Unique
