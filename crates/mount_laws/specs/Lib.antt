-- Laws that are stated here, beside those of the rules.
pub mod Flushes
pub mod Listings
pub mod Observations
pub mod Parents
pub mod Removals
pub mod Renames
