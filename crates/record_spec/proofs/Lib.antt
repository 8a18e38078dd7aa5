-- The laws of the record list.
pub mod KnownLaws
pub mod WrittenLaws
pub mod UseLaws
