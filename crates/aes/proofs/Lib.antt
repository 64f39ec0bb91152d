-- The laws of aes. Public are those that a crate above cites.
pub mod ByteStates
pub mod Inverse
pub mod ScheduleBytes
pub mod Appended
pub mod MixColumns
mod Rounds
pub mod PutAt
pub mod Schedule
