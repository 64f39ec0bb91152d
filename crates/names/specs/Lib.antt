-- The definitions of names.
pub mod Derived
pub mod Shown
