-- Laws of the rules: first of the words and numbers that they are made of, then of the calls.
pub mod Below
pub mod Rights
pub mod Operands
pub mod Checks
pub mod Bench
pub mod Decoding
pub mod Refusing
pub mod Order
pub mod Sizes
pub mod Needed
pub mod Grants
pub mod SoundCells
pub mod Kept
pub mod Laws
pub mod Small
pub mod Performing
pub mod Unique
