-- Legal histories: what a mount and a bucket may do with a scenario. The log explains the journal, both go by the
-- scenario's schedule, and nobody but its lanes made anything.
use Rattle.std.specs.Prelude.{◌≡◌, ℕ, Contains, List, map, IsTrue, Some, ◌⊎◌}
use Rattle.std.specs.List.{AllByRecursion}
use Rattle.bucket_api.specs.Log.{FollowsScript, event_at}
use Rattle.bucket_api.specs.LogEvent.{LogEvent}
use Rattle.bucket_api.specs.Scripts.{script_of}
use Rattle.fuse_requests.specs.Grammar.{request_of}
use Rattle.history_spec.specs.Account.{Account}
use Rattle.history_spec.specs.Fits.{Fits}
use Rattle.history_spec.specs.JournalState.{EndedCall, JournalState, reached, replies_of}
use Rattle.legal_spec.specs.Frames.{Replies, frame_by}
use Rattle.legal_spec.specs.Schedules.{InPhases, call_at, is_remote, lane_at, move_of, moves_of, operations_of, remotely_made}
use Rattle.mount_model.specs.Journal as journal
use Rattle.mount_model.specs.Journal.{Entry}
use Rattle.scenario.specs.Parts.{Call, Lane, ScenarioData}

-- what an account of the scenario's mount has come to
abbrev pub played : ScenarioData → List LogEvent → Account → JournalState
played scenario log account = reached scenario.config scenario.start log account

-- a call is taken with the request of its frame, after the fixups that these replies give
abbrev pub IsAsked : List (List Lane) → Replies → Entry → Type 0
IsAsked phases replies (journal.taken call front request) = (scripted : Call) × (call_at phases call ≡ Some scripted) × (request ≡ request_of (frame_by replies scripted))
IsAsked phases replies entry = Unit {0}

-- each event was made by a remote writer of the scenario, or by a call that is done
abbrev pub IsMade : List (List Lane) → JournalState → ℕ → LogEvent → Type 0
IsMade phases state moment event = IsTrue (is_remote (lane_at phases event.lane)) ⊎ ((e : EndedCall) × Contains state.ended e × Contains e.own moment)

-- A legal history of a scenario. The log explains the journal, over the scenario's bucket. Operations fail where the
-- scenario says. The journal has what the lanes of calls and clocks bring, phase by phase: each call is taken and done
-- once, in the order of its lane. Remote writers made their operations, phase by phase. Each call was taken with the
-- request of its frame after its fixups. Each event is one of a remote writer, or a call's own.
pub record Legal (scenario : ScenarioData) (log : List LogEvent) (journal : List Entry) : Type 0 where
  pub fits : Fits scenario.config scenario.start log journal
  pub script : FollowsScript (script_of scenario.script) log
  pub moves : InPhases moves_of 1 scenario.phases (map move_of journal)
  pub remote : InPhases operations_of 1 scenario.phases (remotely_made scenario.phases log)
  pub asked : AllByRecursion (IsAsked scenario.phases (replies_of (played scenario log fits.account))) journal
  pub made : (moment : ℕ) (event : LogEvent) → event_at log moment ≡ Some event → IsMade scenario.phases (played scenario log fits.account) moment event
