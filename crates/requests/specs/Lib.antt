-- The definitions of requests.
pub mod Answers
pub mod Claims
