-- What is played of a scenario, and what comes of it.
pub mod Tables
pub mod Playing
pub mod Histories
