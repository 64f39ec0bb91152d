-- The laws of effects.
pub mod Acting
mod Showing
