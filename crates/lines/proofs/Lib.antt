-- The laws of lines.
pub mod Texts
pub mod Answering
pub mod Saying
pub mod Room
mod TypedLines
mod OneLine
pub mod Evidence
