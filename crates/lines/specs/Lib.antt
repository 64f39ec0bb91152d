-- The definitions of lines: the texts of answers, what is answered to a line of a request script, and what the answer `error 18 EXDEV` proves.
pub mod Answers
pub mod Lines
pub mod Evidence
