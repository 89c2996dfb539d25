-- Document 01, "The listing": its keywords, its lines, the text as a whole, what is written, and which line is the lowest wrong
-- one (`First`); and words for the contracts of the functions that read and write them (`Reading`).
pub mod Words
pub mod Lines
pub mod Listing
pub mod First
pub mod Output
pub mod Reading
