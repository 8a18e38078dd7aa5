-- The laws that the proofs of `bucket_list` cite.
pub mod Keys
pub mod Pages
pub mod Starts
pub mod Texts
pub mod Walks
