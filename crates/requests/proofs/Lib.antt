-- The laws behind the requests' proofs.
pub mod Passing
