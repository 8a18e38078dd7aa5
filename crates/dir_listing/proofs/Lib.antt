-- The laws that the proofs of `dir_listing` cite.
mod FileLemmas
mod KeptLemmas
pub mod PageLemmas
mod PartLemmas
pub mod PathLaws
