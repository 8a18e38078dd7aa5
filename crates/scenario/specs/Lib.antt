-- The words that the contracts of `scenario` cite.
pub mod Walks
pub mod Told
pub mod Parts
pub mod Works
pub mod Checks
pub mod Format
pub mod Lawful
