-- The words that the contracts of `dir_listing` cite.
pub mod Kinds
pub mod Names
pub mod Pages
pub mod PathNames
pub mod Steps
