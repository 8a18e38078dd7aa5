-- The words that the contracts of `inode_table`, and the rules of the requests, cite.
pub mod Counts
pub mod Inodes
