-- The words that the contracts of `mount_state` cite.
pub mod Codes
pub mod Files
pub mod Groups
pub mod Made
pub mod Mounts
pub mod Moving
pub mod Serving
pub mod Spares
pub mod StagedAttrs
pub mod Tables
pub mod Telling
