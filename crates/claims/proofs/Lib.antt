-- The laws that the proofs of `claims` cite.
pub mod NameWrites
pub mod TallySums
pub mod TallyMaps
pub mod Totals
pub mod Tested
pub mod TableLaws
