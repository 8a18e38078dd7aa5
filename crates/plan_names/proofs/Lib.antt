-- The lemmas that the proofs of `plan_names` cite.
mod LastLemmas
pub mod NameLemmas
mod PageLemmas
mod PlaceholderLemmas
