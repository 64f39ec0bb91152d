-- The definitions of fscrypt.
pub mod Cipher
pub mod Keys
pub mod Names
pub mod Encoded
pub mod Meanings
