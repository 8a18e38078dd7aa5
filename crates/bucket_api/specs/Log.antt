-- The states and answers of a log of events, by moments.
use Rattle.std.specs.Prelude.{◌≡◌, ℕ, ◌==◌, List, [], ◌∷◌, take, fold, Option, Some, None, option_map, unwrap_or, IfSome}
use Rattle.std.specs.Map.{lookup}
use Rattle.bucket_api.specs.declared.answers.Answer.{Answer}
use Rattle.bucket_api.specs.declared.answers.Answer.TheVariants.{Fault}
use Rattle.bucket_api.specs.declared.objects.Object.{Object}
use Rattle.bucket_api.specs.declared.events.Mode.{Mode}
use Rattle.bucket_api.specs.declared.events.Mode.TheVariants.{Done, Failed, Lost}
use Rattle.bucket_api.specs.LogEvent.{LogEvent}
use Rattle.bucket_api.specs.Moments.{position_of, at_moment}
use Rattle.bucket_api.specs.Operation.{Operation}
use Rattle.bucket_api.specs.BucketState.{BucketState, object_of}
use Rattle.bucket_api.specs.BucketStep.{answer_to, state_after}

-- a failed operation has no effect, a lost one its whole effect
abbrev pub state_by : Mode → Operation → BucketState → BucketState
state_by Done op b = state_after op b
state_by Failed op b = b
state_by Lost op b = state_after op b

-- both are answered by a fault
abbrev pub answer_by : Mode → Operation → BucketState → Answer
answer_by Done op b = answer_to op b
answer_by Failed op b = Fault
answer_by Lost op b = Fault

-- the event at a moment
abbrev pub event_at : List LogEvent → ℕ → Option LogEvent
event_at log moment = at_moment log moment

-- the bucket at a moment, which at 0 is the bucket before the log
abbrev pub state_at : BucketState → List LogEvent → ℕ → BucketState
state_at start log moment = fold (λ b e. state_by e.mode e.op b) start (take moment log)

-- the answer of the event at a moment
abbrev pub answer_at : BucketState → List LogEvent → ℕ → Option Answer
answer_at start log moment = option_map (λ e. answer_by e.mode e.op (state_at start log (position_of moment))) (event_at log moment)

-- the mode that a script of faults sets at a moment, `Done` where it names none
abbrev pub scripted_mode : List (ℕ × Mode) → ℕ → Mode
scripted_mode script moment = unwrap_or (lookup (λ m. m == moment) script) Done

-- each event has the mode that the script sets
abbrev pub FollowsScript : List (ℕ × Mode) → List LogEvent → Type 0
FollowsScript script log = (moment : ℕ) → IfSome (event_at log moment) (λ e. e.mode ≡ scripted_mode script moment)

-- the object's content, and the later one where there is no object
abbrev pub content_or : Option Object → Option (List ℕ) → Option (List ℕ)
content_or (Some o) later = Some o.content
content_or None later = later

-- the content that a name has with a generation, in the first bucket in which it is live with it
abbrev pub content_of : BucketState → List LogEvent → List ℕ → ℕ → Option (List ℕ)
content_of b [] name generation = content_or (object_of b name generation) None
content_of b (e ∷ log) name generation = content_or (object_of b name generation) (content_of (state_by e.mode e.op b) log name generation)
