-- The definitions of lists.
pub mod Bytes
pub mod Meanings
