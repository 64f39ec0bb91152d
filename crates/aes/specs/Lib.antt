-- The definitions that the contracts of aes cite.
pub mod Words
pub mod States
pub mod Bytes
pub mod Cipher
pub mod KeyExpansion
pub mod Schedule
