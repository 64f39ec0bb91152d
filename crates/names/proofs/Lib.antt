-- The laws of names.
mod Reading
