-- The definitions of errno.
pub mod Refusals
pub mod Meanings
