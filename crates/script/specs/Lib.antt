-- The definitions of script: the request script's texts, and what each means.
pub mod Text
pub mod Words
pub mod Numbers
pub mod Strings
pub mod Commands
pub mod Cutting
