-- Laws of streams.
pub mod StreamLemmas
