-- The words that the contracts of `file_cache` cite.
pub mod Kept
pub mod Stored
