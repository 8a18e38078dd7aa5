-- Laws of the texts of requests: each part is read back, and so is the whole.
pub mod PartLemmas
pub mod PairLemmas
pub mod PairTexts
pub mod FieldTexts
pub mod TailTexts
pub mod BodyTexts
pub mod FrameTexts
pub mod NamingTexts
pub mod NodeTexts
pub mod MountTexts
pub mod RequestTexts
pub mod Writable
