-- What the proofs of `mount_kept` cite.
pub mod Slashes
pub mod Recalling
pub mod KeptFilesLaws
pub mod Telling
pub mod Takings
pub mod Serving
pub mod Served
pub mod Flagged
pub mod ThriftMissed
pub mod ThriftItems
