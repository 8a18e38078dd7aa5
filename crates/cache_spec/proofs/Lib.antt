-- The laws of kept files.
pub mod KeptLaws
