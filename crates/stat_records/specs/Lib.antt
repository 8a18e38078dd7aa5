-- The words that the contracts of `stat_records` cite, beside those of `record_spec`.
pub mod Ending
pub mod Keys
pub mod Told
