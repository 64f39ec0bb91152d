-- The laws of lookup.
mod Ascent
mod Search
