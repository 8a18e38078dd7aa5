-- The journal of a mount, and how the log of its bucket explains it.
pub mod Account
pub mod Observing
pub mod Pasts
pub mod JournalState
pub mod Looks
pub mod Fits
pub mod Lanes
pub mod Claims
pub mod Laws
