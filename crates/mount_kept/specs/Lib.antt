-- The words that the contracts of `mount_kept` cite.
pub mod Recalls
pub mod Notes
pub mod Items
pub mod Drafts
pub mod Serves
pub mod Takings
