-- What a bucket in memory and its passes tell.
use Rattle.std.specs.Prelude.{◌≡◌, ℕ, false}
use Rattle.turn_lock.specs.Book.{AllMade, entries_of}
use Rattle.turn_lock.specs.Seats.{Lock, SeatState}
use Rattle.bucket_api.specs.LogEvent.{LogEvent}
use Rattle.bucket_api.specs.BucketState.{IsBucket}
use Rattle.bucket_api.specs.Passes.{Origin, PassState}
use Rattle.logged_bucket.specs.LoggedState.{LoggedState}
use Rattle.mem_bucket.specs.Homes.{MayMake}

-- which bucket a lock keeps
abbrev pub origin_of : Lock LoggedState → Origin (Lock LoggedState)
origin_of lock = record { identity = lock; start = lock.first.start }

-- a pass, by its seat at the lock and its count of faults
abbrev pub pass_of : SeatState LoggedState LogEvent → ℕ → PassState (Lock LoggedState)
pass_of seat faults = record { origin = origin_of seat.lock; lane = seat.number; held = seat.held; seen = entries_of seat.seen; mine = seat.mine; faults = faults }

-- A seat of a pass: it isn't entered, and what stands in the log that it has seen was asked and signed as it may be
pub record IsSeated (seat : SeatState LoggedState LogEvent) (lane : ℕ) : Type 0 where
  pub outside : seat.entered ≡ false
  pub number : seat.number ≡ lane
  pub start : IsBucket seat.lock.first.start
  pub made : AllMade MayMake seat.seen
