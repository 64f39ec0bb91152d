-- The laws of session.
pub mod Skipping
pub mod Feeding
pub mod Logged
