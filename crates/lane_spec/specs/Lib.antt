-- The words on numbers held and on lists that go on.
pub mod Numbers
pub mod Going
