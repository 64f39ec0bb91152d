-- The definitions of lookup.
pub mod Found
