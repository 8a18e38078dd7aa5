-- Laws of finite maps and of the entries that stand for them.
pub mod FinMaps
pub mod Views
