-- The words that the contracts of `claims`, and the rules of the requests, cite.
pub mod Conflicts
