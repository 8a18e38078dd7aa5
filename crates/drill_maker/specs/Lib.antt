-- The words that the contracts of `drill_maker` cite.
pub mod Steps
pub mod Drill
pub mod Files
pub mod Summary
