-- The definitions of policy.
pub mod Policies
pub mod RoundTrips
pub mod Meanings
