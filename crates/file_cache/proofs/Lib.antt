-- The laws that the proofs of `file_cache` cite.
pub mod CacheLaws
pub mod Contents
pub mod HeldLaws
pub mod Numbered
pub mod Reading
pub mod Storing
