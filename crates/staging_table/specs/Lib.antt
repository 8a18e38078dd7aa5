-- The words that the contracts of `staging_table` cite.
pub mod Stagings
pub mod Tables
