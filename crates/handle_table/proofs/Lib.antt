-- The laws that the proofs of `handle_table` cite.
pub mod HandleLemmas
