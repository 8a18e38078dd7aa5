-- The words that the contracts of `plan_names` cite.
pub mod Errands
pub mod Outcomes
pub mod Telling
