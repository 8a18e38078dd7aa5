-- The laws that the proofs of `staging_table` cite.
pub mod Mapped
pub mod Served
pub mod Changed
pub mod Timed
pub mod Empty
