-- The definitions and laws of the record list.
pub mod RecordList
pub mod Steps
pub mod Past
pub mod Laws
