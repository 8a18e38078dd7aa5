-- What the lock of a shared bucket fixes of the bucket that it keeps, and who may make which event.
use Rattle.std.specs.Prelude.{◌≡◌, ℕ, List}
use Rattle.bucket_api.specs.declared.events.Mode.{Mode}
use Rattle.bucket_api.specs.LogEvent.{LogEvent}
use Rattle.bucket_api.specs.Operation.{IsAllowed}
use Rattle.bucket_api.specs.BucketState.{BucketState}
use Rattle.logged_bucket.specs.LoggedState.{LoggedState}

-- what the lock was made with, and no call changes
abbrev pub home_of : LoggedState → BucketState × List (ℕ × Mode)
home_of kept = (kept.start, kept.script)

-- who makes an event signs it by the own number, and asks what may be asked
abbrev pub MayMake : ℕ → LogEvent → Type 0
MayMake number e = (e.lane ≡ number) × IsAllowed e.op
