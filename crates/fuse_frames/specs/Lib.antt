-- The words that the contracts of `fuse_frames` cite.
pub mod Cut
pub mod Cutter
pub mod Front
pub mod Kept
