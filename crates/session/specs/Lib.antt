-- The definitions of session: what is answered to an input, and what that proves.
pub mod Input
pub mod Logged
