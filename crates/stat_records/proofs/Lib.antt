-- What the table's proofs cite.
pub mod Inside
pub mod Views
