-- The words that the contracts of `mem_bucket` cite.
pub mod Homes
pub mod MemPasses
