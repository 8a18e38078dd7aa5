-- The words that the contracts of `file_metadata` cite.
pub mod FileMetadata
