-- The lemmas that the proofs of `plan_files` cite.
pub mod BitLaws
mod PairLemmas
