-- The printed text of a history.
pub mod Words
pub mod Lines
pub mod HistoryText
pub mod Putting
pub mod CodeWords
