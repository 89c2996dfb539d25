-- Laws, from the byte to the line: read, written, and read back. A line is read by itself (`OneLine`). What is answered tells all
-- that the definition does (`Told`). Each public function has one outcome (`Unique`).
pub mod Cases
pub mod Digits
pub mod Numbers
pub mod Lines
pub mod Advance
pub mod OneLine
pub mod SameLines
pub mod Stars
pub mod Walks
pub mod Writing
pub mod Room
pub mod Round
pub mod Told
pub mod Unique
pub mod Examples
