-- Laws of cutting a stream into frames.
pub mod CutLemmas
pub mod CutterLemmas
pub mod FrontLemmas
mod Steps
