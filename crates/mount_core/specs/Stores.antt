-- The bucket of a mount on one thread, with the number of operations that were made on it; and the logs that explain it.
use Rattle.std.specs.Prelude.{◌≡◌, ◌≤◌, ◌+◌, ◌^◌, ℕ, All, length}
use Rattle.bucket_api.specs.BucketState.{BucketState, IsBucket, IsWithin}
use Rattle.bucket_api.specs.Operation.{IsAllowed}
use Rattle.mount_rules.specs.OneThread.{Store, bucket_of}

-- a bucket, and how many operations were made on it
pub record Counted : Type 0 where
  pub bucket : BucketState
  pub made : ℕ

-- the most operations that are made
abbrev pub most : ℕ
most = 2 ^ 48

-- no number of the bucket has come near its end
pub record IsCounted (counted : Counted) : Type 0 where
  pub is : IsBucket counted.bucket
  pub within : IsWithin (2 ^ 62 + counted.made) counted.bucket
  pub bounded : counted.made ≤ most

-- A bucket as it was at first, and a log of what was made of it, leave this bucket after so many operations. All of them
-- may be asked of a bucket.
pub record LeavesBucket (store : Store) (counted : Counted) : Type 0 where
  pub start : IsBucket store.start
  pub allowed : All (λ e. IsAllowed e.op) store.log
  pub bucket : counted.bucket ≡ bucket_of store
  pub made : counted.made ≡ length store.log
