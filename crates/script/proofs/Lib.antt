-- The laws of script.
pub mod Finding
pub mod Stores
pub mod Digits
pub mod Hex
pub mod Lines
pub mod Taking
pub mod Keeping
