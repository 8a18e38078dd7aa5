-- The laws that the proofs of `bucket_api` cite.
pub mod BucketLaws
pub mod ContentLaws
pub mod FaultLaws
pub mod LogLaws
pub mod MomentLaws
pub mod PairLaws
pub mod PassLaws
pub mod RoomLaws
pub mod TextOrder
