-- A scenario that is played lane by lane: what has come of it so far, and what is left.
use Rattle.std.specs.Prelude.{◌≡◌, ℕ, ◌+◌, ◌<◌, false, List, [], ◌∷◌, ◌++◌, length, map, IsSome, Some}
use Rattle.std.specs.List.{AllByRecursion, flat_map}
use Rattle.bucket_api.specs.LogEvent.{LogEvent}
use Rattle.bucket_api.specs.Operation.{Operation}
use Rattle.bucket_api.specs.Scripts.{script_of}
use Rattle.fuse_requests.specs.Grammar.{request_of}
use Rattle.history_spec.specs.Account.{Account}
use Rattle.history_spec.specs.Fits.{ended_in}
use Rattle.history_spec.specs.JournalState.{JournalState, replies_of}
use Rattle.history_spec.specs.Lanes.{IsCovered}
use Rattle.legal_spec.specs.Frames.{Replies, frame_by, reply_of}
use Rattle.legal_spec.specs.Schedules.{Move, call_at, calls_by, calls_of, is_remote, lane_at, move_of, moves_of, operations_of, remotely_made}
use Rattle.legal_spec.specs.Texts.{reply_frame}
use Rattle.mount_core.specs.Lones.{LoneState, Tells, come_to}
use Rattle.mount_model.specs.Journal as journal
use Rattle.mount_model.specs.Journal.{Entry}
use Rattle.mount_model.specs.declared.gate.CallId.{CallId}
use Rattle.play_lanes.specs.Tables.{AreGiven, Table, row_of}
use Rattle.scenario.specs.Lawful.{IsLawful}
use Rattle.scenario.specs.Parts.{Call, Lane, ScenarioData}
use Rattle.scenario.specs.declared.call.Fix.{Fix}

-- The mount; the calls that are done, each with the frame of its reply; and what their replies give to later frames.
pub record PlayState : Type 0 where
  pub lone : LoneState
  pub calls : List CallId
  pub frames : List (List ℕ)
  pub given : Table

-- ---- what lanes bring
-- moves to the journal, operations of remote writers to the log, and calls
pub record Brought : Type 0 where
  pub moves : List Move
  pub writes : List (ℕ × Operation)
  pub calls : List CallId

abbrev pub nothing : Brought
nothing = record { moves = []; writes = []; calls = [] }

-- the one, and the other behind it
abbrev pub joined : Brought → Brought → Brought
joined one other = record { moves = one.moves ++ other.moves; writes = one.writes ++ other.writes; calls = one.calls ++ other.calls }

abbrev pub of_lane : ℕ → Lane → Brought
of_lane number lane = record { moves = moves_of number lane; writes = operations_of number lane; calls = calls_of number lane }

-- what lanes bring, one behind the other, of which the first has this number
abbrev pub of_lanes : ℕ → List Lane → Brought
of_lanes first [] = nothing
of_lanes first (lane ∷ lanes) = joined (of_lane first lane) (of_lanes (first + 1) lanes)

-- all lanes, in the order of their numbers
abbrev pub lanes_in : List (List Lane) → List Lane
lanes_in phases = flat_map (λ lanes. lanes) phases

-- what has come of a scenario so far
abbrev pub brought_by : ScenarioData → PlayState → Brought
brought_by scenario p = record { moves = map move_of p.lone.journal; writes = remotely_made scenario.phases p.lone.log; calls = p.calls }

-- ---- calls and their replies
-- the fixups of a call name calls that have these replies
abbrev pub HasReplies : Replies → Call → Type 0
HasReplies replies call = AllByRecursion (λ (fix : Fix). IsSome (reply_of replies fix.call)) call.fixes

-- a call was taken with the request of its frame, whose fixups name calls that have these replies
abbrev pub IsAskedBy : List (List Lane) → Replies → Entry → Type 0
IsAskedBy phases replies (journal.taken call front request) =
    (scripted : Call) × (call_at phases call ≡ Some scripted) × (request ≡ request_of (frame_by replies scripted)) × HasReplies replies scripted
IsAskedBy phases replies entry = Unit {0}

-- the scripted call has its reply among these, and so have those that its fixups name
pub record IsAnswered (phases : List (List Lane)) (replies : Replies) (call : CallId) : Type 0 where
  pub scripted : Call
  pub there : call_at phases call ≡ Some scripted
  pub fixed : HasReplies replies scripted
  pub told : IsSome (reply_of replies call)

-- ---- so far
-- What was done is what the lanes ask, and is kept: each call was taken with the request of its frame; all that a lane made
-- which is none of a remote writer is its calls' own; the table has a row for each lane that has begun, with what the
-- replies of its calls give; each call that is done has the frame of its reply; and the lanes before the last are whole.
pub record IsScripted (phases : List (List Lane)) (p : PlayState) (state : JournalState) : Type 0 where
  pub asked : AllByRecursion (IsAskedBy phases (replies_of state)) p.lone.journal
  pub covered : (lane : ℕ) → is_remote (lane_at phases lane) ≡ false → IsCovered p.lone.log state lane
  pub counted : (lane : ℕ) → ended_in state lane ≡ length (row_of p.given lane)
  pub given : AreGiven p.given (replies_of state)
  pub answered : AllByRecursion (IsAnswered phases (replies_of state)) p.calls
  pub framed : p.frames ≡ map (reply_frame phases (replies_of state)) p.calls
  pub whole : (number : ℕ) → number < length p.given → length (row_of p.given number) ≡ length (calls_by (lane_at phases number))

-- the mount of a scenario, which has done this
abbrev pub lone_of : ScenarioData → List LogEvent → List Entry → LoneState
lone_of scenario log journal = record { config = scenario.config; start = scenario.start; script = script_of scenario.script; log = log; journal = journal }

-- A lawful scenario is being played: an account tells all that its mount did, and that is what the lanes ask.
pub record IsPlaying (scenario : ScenarioData) (p : PlayState) : Type 0 where
  pub lawful : IsLawful scenario
  pub mount : p.lone ≡ lone_of scenario p.lone.log p.lone.journal
  pub account : Account
  pub tells : Tells p.lone account
  pub scripted : IsScripted scenario.phases p (come_to p.lone account)

-- Between lanes: the lanes that have begun are done, and these are left.
pub record IsBetween (scenario : ScenarioData) (p : PlayState) (left : List Lane) : Type 0 where
  pub playing : IsPlaying scenario p
  pub done : List Lane
  pub lanes : lanes_in scenario.phases ≡ done ++ left
  pub begun : length p.given ≡ length done
  pub whole : length (row_of p.given (length p.given)) ≡ length (calls_by (lane_at scenario.phases (length p.given)))
  pub brought : brought_by scenario p ≡ of_lanes 1 done

-- Amid a lane of some kind: some of its items are done, these are left, and behind it further lanes.
pub record IsAmid {X : Type 0} (kind : List X → Lane) (scenario : ScenarioData) (p : PlayState) (left : List X) (more : List Lane) : Type 0 where
  pub playing : IsPlaying scenario p
  pub before : List Lane
  pub done : List X
  pub lanes : lanes_in scenario.phases ≡ before ++ kind (done ++ left) ∷ more
  pub begun : length p.given ≡ length before + 1
  pub answered : length (row_of p.given (length p.given)) ≡ length (calls_by (Some (kind done)))
  pub brought : brought_by scenario p ≡ joined (of_lanes 1 before) (of_lane (length p.given) (kind done))
