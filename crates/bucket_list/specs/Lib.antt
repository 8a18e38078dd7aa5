-- The words that the contracts of `bucket_list` cite.
pub mod Closing
pub mod Slash
pub mod Start
pub mod Walking
