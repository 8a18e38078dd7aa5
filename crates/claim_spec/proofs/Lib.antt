-- The laws of claims.
pub mod Apart
