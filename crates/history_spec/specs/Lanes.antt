-- The calls of a lane: one after another, and their own events, which are all that the lane made.
use Rattle.std.specs.Prelude.{◌≡◌, ◌≢◌, ℕ, ◌+◌, ◌<◌, ◌≤◌, ◌==◌, ◌⊎◌, Contains, List, [], ◌∷◌, ◌++◌, length, Option, Some, if◌then◌else◌}
use Rattle.std.specs.Option.{option_map_or}
use Rattle.bucket_api.specs.LogEvent.{LogEvent}
use Rattle.history_spec.specs.Fits.{ended_in}
use Rattle.history_spec.specs.JournalState.{EndedCall, JournalState, OpenCall, open_of}
use Rattle.history_spec.specs.Observing.{own_moments}

-- A call under way is the only one of its lane, and the next one after those that are done; the mount had seen no more of
-- the log at its take than it has now; and the calls that were done before its take are those that are done, but for the
-- latest.
pub record IsInTurn (state : JournalState) (o : OpenCall) : Type 0 where
  pub alone : open_of state.opened o.call.lane ≡ Some o
  pub next : o.call.index ≡ ended_in state o.call.lane + 1
  pub front : o.front ≤ state.front
  pub since : List EndedCall
  pub earlier : state.ended ≡ since ++ o.before

-- the moments that the done calls of a lane made, one call after another
abbrev pub ended_own : List EndedCall → ℕ → List ℕ
ended_own [] lane = []
ended_own (e ∷ ended) lane = if e.call.lane == lane then ended_own ended lane ++ e.own else ended_own ended lane

-- the moments that a call of a lane has made since its take, up to the end of the log; none, where there is no call
abbrev pub own_since : List LogEvent → ℕ → Option OpenCall → List ℕ
own_since log lane found = option_map_or (λ (o : OpenCall). own_moments log lane o.front (length log)) found []

-- those of its call under way
abbrev pub open_own : List LogEvent → List OpenCall → ℕ → List ℕ
open_own log opened lane = own_since log lane (open_of opened lane)

-- All that a lane made is covered by its calls: by those that are done, one after another, and by the one under way.
abbrev pub IsCovered : List LogEvent → JournalState → ℕ → Type 0
IsCovered log state lane = own_moments log lane 0 (length log) ≡ ended_own state.ended lane ++ open_own log state.opened lane

-- The event at a moment was made beside a call: by a call that was done since its take, or by another call under way.
abbrev pub IsBeside : List EndedCall → JournalState → OpenCall → ℕ → LogEvent → Type 0
IsBeside since state o moment event =
    ((e : EndedCall) × Contains since e × Contains e.own moment)
    ⊎ ((other : OpenCall) × (open_of state.opened event.lane ≡ Some other) × (other.call.lane ≢ o.call.lane) × (other.front < moment))
