-- The words that the contracts of `turn_lock` cite.
pub mod Book
pub mod Seats
pub mod Rule
pub mod Steps
pub use Rattle.atomic_table.specs.Seated
