-- The laws of lists.
pub mod Tests
pub mod Tables
pub mod SameBytes
pub mod Predicates
pub mod Slots
pub mod Digits
pub mod Copies
pub mod ByteStrings
pub mod ByteMeanings
pub mod Searches
