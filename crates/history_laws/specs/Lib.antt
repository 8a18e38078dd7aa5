-- What a mount promises along any account.
pub mod Ends
pub mod Apart
pub mod Nodes
pub mod Reads
pub mod Flushes
pub mod Opens
pub mod Agreements
pub mod Records
