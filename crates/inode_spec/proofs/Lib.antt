-- Laws of tables of nodes.
pub mod Cases
pub mod CountLaws
pub mod TableLaws
