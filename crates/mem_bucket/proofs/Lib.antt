-- The laws that the proofs of `mem_bucket` cite.
pub mod Gathering
pub mod PassLaws
pub mod Sent
