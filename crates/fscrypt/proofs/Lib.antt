-- The laws of fscrypt. Public are those that a crate above cites.
pub mod Lawfulness
pub mod Padding
pub mod Shown
pub mod Distinct
pub mod Lettering
pub mod NameMeanings
pub mod PaddingMeanings
pub mod LetterMeanings
pub mod Meanings
mod Packing
mod Searching
mod Published
