-- The words that the contracts of `plan_files` cite.
pub mod Errands
pub mod Errors
pub mod Outcomes
pub mod Settings
