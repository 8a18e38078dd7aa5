-- The words that the contracts of `io_ports` cite.
pub mod Faults
pub mod MemStreams
pub mod Ports
pub mod RowItems
pub mod Streams
