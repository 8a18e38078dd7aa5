-- The words that the contracts of `staged_file` cite.
pub mod Staged
pub mod Sources
pub mod Steps
pub mod Spans
pub mod Frozen
pub mod Laws
