-- The words that the contracts of `fuse_replies` cite.
pub mod Errno
pub mod Layouts
pub mod Replies
pub mod Reading
