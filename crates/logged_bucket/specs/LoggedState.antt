-- A bucket with its log, as plain data.
use Rattle.std.specs.Prelude.{ℕ, List}
use Rattle.bucket_api.specs.declared.events.Mode.{Mode}
use Rattle.bucket_api.specs.LogEvent.{LogEvent}
use Rattle.bucket_api.specs.BucketState.{BucketState}

-- the bucket before its log, the script of its faults, and the log
pub record LoggedState : Type 0 where
  pub start : BucketState
  pub script : List (ℕ × Mode)
  pub log : List LogEvent
