-- The laws that the proofs of `mtime_text` cite.
pub mod DigitLemmas
pub mod DateLemmas
pub mod MomentLemmas
pub mod StepLemmas
pub mod PartLemmas
pub mod ZoneLemmas
pub mod GrammarLemmas
