-- Laws of little-endian fields and of heads.
pub mod HeadLemmas
pub mod LittleLemmas
mod Writes
