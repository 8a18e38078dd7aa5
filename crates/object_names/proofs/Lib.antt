-- The laws that the proofs of `object_names` cite.
pub mod ComponentLemmas
pub mod EndLemmas
pub mod EntryLemmas
pub mod PathLemmas
pub mod ShownLemmas
pub mod SlowLemmas
