pub mod TextLemmas
pub mod ReplyLemmas
pub mod FieldLemmas
pub mod StripLemmas
pub mod ReadLemmas
pub mod DirentLemmas
pub mod BodyLemmas
pub mod HeadReads
