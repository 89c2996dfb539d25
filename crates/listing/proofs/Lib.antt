-- Laws of the listing, from a line to the whole text: read, written, and read back. The line at which a text is wrong is the
-- lowest (`Lowest`). `cellrun` has one outcome (`Unique`).
pub mod Rows
pub mod Loops
pub mod Written
pub mod EntriesBack
pub mod LinesBack
pub mod Back
pub mod LineKinds
pub mod SideBySide
pub mod Stages
pub mod Alongside
pub mod Completions
pub mod Deciding
pub mod Beginning
pub mod Lowest
pub mod Whole
pub mod Sized
pub mod RunBack
pub mod Unique
