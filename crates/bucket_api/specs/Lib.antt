-- The words that the contracts of `bucket_api` cite.
pub mod BucketState
pub mod BucketStep
pub mod Contents
pub mod Listing
pub mod Log
pub mod LogEvent
pub mod Metadata
pub mod Moments
pub mod Names
pub mod Operation
pub mod PageData
pub mod Pages
pub mod Passes
pub mod Scripts
