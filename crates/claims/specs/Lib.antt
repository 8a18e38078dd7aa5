-- The words that the contracts of `claims` cite.
pub mod ClaimCode
pub mod HeldClaims
pub mod TallyWords
pub mod Tallies
pub mod NameRoom
pub mod TalliedTable
