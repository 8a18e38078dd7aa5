-- Laws of the lock's views and of its rule.
pub mod Views
pub mod Kept
pub mod Shown
pub mod Standing
pub mod Sent
