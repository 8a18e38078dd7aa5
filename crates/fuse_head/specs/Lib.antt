-- The words that the contracts of `fuse_head` cite.
pub mod Little
pub mod Head
