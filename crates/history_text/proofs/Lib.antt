-- The laws of the printed text, in the order in which they build on one another.
pub mod PrintLaws
pub mod TextLaws
pub mod PartLaws
pub mod LineLaws
pub mod ReadingLaws
pub mod WordLaws
