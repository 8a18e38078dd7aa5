-- The laws that the proofs of `block_pool` cite.
pub mod Lists
pub mod Walks
pub mod Relinking
pub mod Inserting
pub mod Cutting
pub mod Maps
pub mod Searching
pub mod Held
pub mod LinkLaws
pub mod Parts
pub mod RegionLaws
pub mod PoolLaws
pub mod Totals
pub mod PoolSteps
pub mod Taking
