-- The laws of errno.
pub mod Chains
pub mod ChainMeanings
