-- The laws of ciphers. Public are those that a crate above cites.
pub mod Laws
pub mod Published
mod Fits
mod Meant
