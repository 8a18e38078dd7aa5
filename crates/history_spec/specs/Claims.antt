-- Claims along an account: what calls under way hold, and that no two of them conflict.
use Rattle.std.specs.Prelude.{◌≡◌, ◌≢◌, List, [], ◌∷◌, ◌⊎◌, map}
use Rattle.bucket_api.specs.BucketState.{BucketState}
use Rattle.bucket_api.specs.LogEvent.{LogEvent}
use Rattle.history_spec.specs.Account as account
use Rattle.history_spec.specs.Account.{Account}
use Rattle.history_spec.specs.JournalState.{JournalState, OpenCall, after_turn, at_front}
use Rattle.mount_model.specs.declared.config.Config.{Config}
use Rattle.mount_model.specs.declared.gate.CallId.{CallId}
use Rattle.mount_rules.specs.Dispatch.{claims, plan, rules_of}
use Rattle.mount_rules.specs.Overlap as overlap
use Rattle.mount_rules.specs.Overlap.{ApartFromAll, Shared}
use Rattle.mount_rules.specs.Plans.{Plan, Step, done}

-- the mount, and the calls under way with the claims that they hold
abbrev pub shared_of : JournalState → Shared
shared_of state = record { mount = state.mount; open_calls = map (λ (o : OpenCall). o.taken) state.opened }

-- the next turn is the end of this call
abbrev pub EndsNext : CallId → Account → Type 0
EndsNext call (account.done ended front how items fill ∷ turns) = ended ≡ call
EndsNext call turns = ⊥

-- a call that asks nothing is done in the turn in which it is taken
abbrev pub InOneTurn : Step → CallId → Account → Type 0
InOneTurn step call turns = (step ≢ done) ⊎ ((step ≡ done) × EndsNext call turns)

-- Each call that is taken claims nothing that conflicts with what calls under way hold, and stays under way only where it
-- asks something.
abbrev pub StandApart : Config → BucketState → List LogEvent → JournalState → Account → Type 0
StandApart config start log state [] = Unit {0}
StandApart config start log state (account.take call front request ∷ turns) =
    ApartFromAll (claims state.mount request) (shared_of state).open_calls
    × InOneTurn (plan (at_front config start log state.clock front) state.mount request []) call turns
    × StandApart config start log (after_turn config start log state (account.take call front request)) turns
StandApart config start log state (turn ∷ turns) = StandApart config start log (after_turn config start log state turn) turns

-- what a call asks by what it saw at its take
abbrev pub plan_taken : overlap.OpenCall → Plan
plan_taken o = (rules_of o.request).plan (record { at = o.at; view = o.view })
