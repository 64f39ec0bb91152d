-- The laws of modes. Public are those that a crate above cites.
pub mod CtsRoundTrip
pub mod XtsRoundTrip
pub mod EcbBlocks
pub mod Numbers
pub mod Meant
mod Alpha
mod CtsSwapped
mod BlockLoop
mod ListBlocks
mod RoundTrip
mod CbcRoundTrip
mod CtsSteal
