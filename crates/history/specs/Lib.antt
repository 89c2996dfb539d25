-- Histories of rights and of bytes.
pub mod History
pub mod Shown
