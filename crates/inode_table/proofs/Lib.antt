-- Laws of what holds of every table.
pub mod HeldLaws
