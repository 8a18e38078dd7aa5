-- Laws that the proofs of several crates cite.
pub mod Options
pub mod Orders
pub mod Tests
