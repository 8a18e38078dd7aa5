-- What holds of a bucket that is kept with its log, and what one more event makes of it.
use Rattle.std.specs.Prelude.{◌≡◌, ℕ, ◌+◌, ◌^◌, ◌<◌, List, [], ◌∷◌, ◌++◌, length, Some}
use Rattle.bucket_api.specs.declared.answers.Answer.{Answer}
use Rattle.bucket_api.specs.declared.events.Mode.{Mode}
use Rattle.bucket_api.specs.LogEvent.{LogEvent}
use Rattle.bucket_api.specs.Moments.{moment_at}
use Rattle.bucket_api.specs.Operation.{Operation}
use Rattle.bucket_api.specs.BucketState.{BucketState, IsBucket, IsWithin}
use Rattle.bucket_api.specs.Log.{state_at, answer_at, scripted_mode, FollowsScript}
use Rattle.bucket_api.specs.Scripts.{RisesAfter, FaultsByScript}
use Rattle.logged_bucket.specs.LoggedState.{LoggedState}

-- The rest of the script, which is to come after this many events: its moments are later, and the script sets no other
-- mode after them
pub record IsToCome (events : ℕ) (script rest : List (ℕ × Mode)) : Type 0 where
  pub rises : RisesAfter events rest
  pub same : (moment : ℕ) → events < moment → scripted_mode script moment ≡ scripted_mode rest moment

-- The bucket is what the log makes of the start, the log follows the script, and each event has raised the bucket's
-- numbers by at most one
pub record IsLogged (logged : LoggedState) (bucket : BucketState) (rest : List (ℕ × Mode)) : Type 0 where
  pub state : bucket ≡ state_at logged.start logged.log (length logged.log)
  pub is_bucket : IsBucket bucket
  pub within : IsWithin (2 ^ 62 + length logged.log) bucket
  pub follows : FollowsScript logged.script logged.log
  pub to_come : IsToCome (length logged.log) logged.script rest

-- the moment of the event that comes next
abbrev pub next_moment : LoggedState → ℕ
next_moment logged = moment_at (length logged.log)

-- the event that comes next, in the mode that the script sets
abbrev pub next_event : LoggedState → ℕ → Operation → LogEvent
next_event logged lane op = record { lane = lane; op = op; mode = scripted_mode logged.script (next_moment logged) }

-- The operation was made as the log's next event, in the mode that the script sets. The moment is its place in the log, and
-- the answer what the log answers there, which is a fault exactly where the script has one
pub record MakesEvent (lane : ℕ) (op : Operation) (old new : LoggedState) (moment : ℕ) (answer : Answer) : Type 0 where
  pub log : new ≡ record old { log = old.log ++ next_event old lane op ∷ [] }
  pub short : length new.log < 2 ^ 63
  pub place : moment ≡ length new.log
  pub answered : answer_at new.start new.log moment ≡ Some answer
  pub follows : FollowsScript new.script new.log
  pub by_script : FaultsByScript new.script moment answer
