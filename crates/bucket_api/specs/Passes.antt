-- What a bucket that many share tells, and each pass to it.
use Rattle.std.specs.Prelude.{◌≡◌, ℕ, ◌+◌, ◌-◌, ◌^◌, List, [], ◌∷◌, ◌++◌, length, All, Some, min}
use Rattle.io_ports.specs.Faults.{next_count}
use Rattle.lane_spec.specs.declared.Numbers.{Numbers}
use Rattle.lane_spec.specs.declared.Numbers.TheVariants.{Only, AllBut}
use Rattle.lane_spec.specs.Going.{GoesOnBy}
use Rattle.bucket_api.specs.declared.answers.Answer.{Answer}
use Rattle.bucket_api.specs.declared.answers.Answer.TheVariants.{Fault}
use Rattle.bucket_api.specs.declared.events.Mode.{Mode}
use Rattle.bucket_api.specs.LogEvent.{LogEvent}
use Rattle.bucket_api.specs.Operation.{Operation, IsAllowed}
use Rattle.bucket_api.specs.BucketState.{BucketState, IsBucket}
use Rattle.bucket_api.specs.Log.{answer_at}

-- Which bucket it is, and what it was before its log began. No call changes either
pub record Origin (I : Type 0) : Type 0 where
  pub identity : I
  pub start : BucketState

-- A pass: its bucket, its own lane, the lanes that it holds, the beginning of the log that it has seen, its own events,
-- and how many faults it has met, up to the end of 64 bits
pub record PassState (I : Type 0) : Type 0 where
  pub origin : Origin I
  pub lane : ℕ
  pub held : Numbers
  pub seen : List LogEvent
  pub mine : List LogEvent
  pub faults : ℕ

-- the log goes on from what was seen, and has no further event of a lane that was held
abbrev pub LogGoesOn : Numbers → List LogEvent → List LogEvent → Type 0
LogGoesOn = GoesOnBy (λ e. e.lane)

-- the faults of both
abbrev pub both_faults : ℕ → ℕ → ℕ
both_faults a b = min (a + b) (2 ^ 64 - 1)

module _ {I : Type 0} where
  -- the first pass to a bucket, which holds all lanes
  abbrev pub first_pass : Origin I → PassState I
  first_pass origin = record { origin = origin; lane = 0; held = AllBut []; seen = []; mine = []; faults = 0 }

  -- the pass that is split off for a lane
  abbrev pub split_pass : PassState I → ℕ → PassState I
  split_pass pass lane = record { origin = pass.origin; lane = lane; held = Only (lane ∷ []); seen = pass.seen; mine = []; faults = 0 }

-- The pass may have seen more of the log, and is else as before
pub record SeesMore {I : Type 0} (old new : PassState I) : Type 0 where
  pub seen : LogGoesOn old.held old.seen new.seen
  pub kept : new ≡ record old { seen = new.seen }

-- What the pass tells is of a bucket: the log stands on one, and each operation in what was seen of it was one that may be asked
pub record IsBucketPass {I : Type 0} (pass : PassState I) : Type 0 where
  pub start : IsBucket pass.origin.start
  pub asked : All (λ e. IsAllowed e.op) pass.seen

-- the faults that a pass has met once it has the answer: one more where it is a fault, and else as many as before
abbrev pub faults_after : Answer → ℕ → ℕ
faults_after Fault faults = next_count faults
faults_after answer faults = faults

-- The pass has made one event, with its own lane and the operation, behind what others had made meanwhile. The moment is
-- its place in the log, and the answer what the log answers there
pub record Acts {I : Type 0} (op : Operation) (old new : PassState I) (moment : ℕ) (answer : Answer) : Type 0 where
  pub before : List LogEvent
  pub mode : Mode
  pub meanwhile : LogGoesOn old.held old.seen before
  pub seen : new.seen ≡ before ++ record { lane = old.lane; op = op; mode = mode } ∷ []
  pub mine : new.mine ≡ old.mine ++ record { lane = old.lane; op = op; mode = mode } ∷ []
  pub place : moment ≡ length new.seen
  pub answered : answer_at old.origin.start new.seen moment ≡ Some answer
  pub faults : new.faults ≡ faults_after answer old.faults
