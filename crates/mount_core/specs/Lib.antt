-- The words that the contracts of `mount_core` cite.
pub mod Bases
pub mod Carrying
pub mod Codes
pub mod Courses
pub mod Errands
pub mod Logged
pub mod LoneCalls
pub mod Lones
pub mod Metadatas
pub mod Serials
pub mod Stores
pub mod Walks
