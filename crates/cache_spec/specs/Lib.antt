-- The words that the contracts of `file_cache`, and what is said of a mount's reads, cite.
pub mod KeptFiles
