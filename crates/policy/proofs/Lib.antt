-- The laws of policy.
pub mod Codec
pub mod Meanings
mod Writing
mod Reading
