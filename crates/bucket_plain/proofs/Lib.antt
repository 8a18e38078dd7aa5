-- The laws that the proofs of `bucket_plain` cite.
pub mod Copies
pub mod Merge
