-- The laws of checks.
mod Lines
