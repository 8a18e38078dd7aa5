-- The laws that the proofs of `logged_bucket` cite.
pub mod LoggingLaws
pub mod ScriptLaws
