-- The words that the contracts of `block_pool` cite.
pub mod Blocks
pub mod Chains
pub mod Nodes
pub mod Pool
pub mod Links
