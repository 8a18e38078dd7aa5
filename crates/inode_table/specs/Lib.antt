-- The words that the contracts of `inode_table` cite, beside those of `inode_spec`.
pub mod Codes
pub mod Lending
pub mod Tables
