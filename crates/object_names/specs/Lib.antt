-- The words that the contracts of `object_names` cite.
pub mod Components
pub mod KindCode
pub mod Paths
pub mod ShownNames
pub mod Slow
