-- The words that the contracts of `handle_table` cite.
pub mod Handles
