-- The words that the contracts of `logged_bucket` cite.
pub mod LoggedState
pub mod Logging
