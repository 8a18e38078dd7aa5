-- Lemmas on legal histories.
pub mod CompleteLaws
pub mod MadeLaws
pub mod Merging
pub mod OneLaneLaws
pub mod PhaseLaws
pub mod PromiseLaws
pub mod TextLaws
