-- Laws of the numbers held and of lists that go on.
pub mod Held
pub mod Going
