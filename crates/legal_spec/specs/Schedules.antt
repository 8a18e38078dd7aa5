-- What a scenario schedules: phase by phase, what each lane brings to the journal and to the log, the lanes of a phase
-- beside one another. Lanes have the numbers 1, 2, .. through all phases, the calls of a lane the indices 1, 2, ...
use Rattle.std.specs.Prelude.{◌≡◌, ℕ, ◌+◌, suc, zero, Bool, true, false, List, [], ◌∷◌, ◌++◌, filter, length, map, slice_get, Option, Some, None}
use Rattle.std.specs.List.{AllByRecursion, flat_map}
use Rattle.bucket_api.specs.LogEvent.{LogEvent}
use Rattle.bucket_api.specs.Operation.{Operation}
use Rattle.mount_model.specs.Journal as journal
use Rattle.mount_model.specs.Journal.{Entry}
use Rattle.mount_model.specs.declared.gate.CallId.{CallId}
use Rattle.scenario.specs.Parts.{Call, Lane, calls, remote, clock}

-- ---- by number
-- what has a number in a list, where the first has 1: nothing at 0, nor past the list's end
abbrev pub numbered : {X : Type 0} → List X → ℕ → Option X
numbered list zero = None
numbered list (suc position) = slice_get list position

abbrev pub lane_at : List (List Lane) → ℕ → Option Lane
lane_at phases number = numbered (flat_map (λ lanes. lanes) phases) number

-- the calls that a lane makes, if it is one of calls
abbrev pub calls_by : Option Lane → List Call
calls_by (Some (calls cs)) = cs
calls_by lane = []

abbrev pub call_at : List (List Lane) → CallId → Option Call
call_at phases call = numbered (calls_by (lane_at phases call.lane)) call.index

-- the numbers of the calls of a lane, the first of which has this index
abbrev pub calls_from : ℕ → ℕ → List Call → List CallId
calls_from lane index [] = []
calls_from lane index (call ∷ more) = record { lane = lane; index = index } ∷ calls_from lane (index + 1) more

abbrev pub calls_of : ℕ → Lane → List CallId
calls_of number (calls cs) = calls_from number 1 cs
calls_of number lane = []

-- whether a lane is one of a remote writer
abbrev pub is_remote : Option Lane → Bool
is_remote (Some (remote ops)) = true
is_remote lane = false

-- ---- phase by phase
-- The list merges these: each keeps its order in it, and it has nothing else.
abbrev pub IsMerge : {X : Type 0} → List (List X) → List X → Type 0
IsMerge lists [] = AllByRecursion (λ list. list ≡ []) lists
IsMerge {X} lists (x ∷ merged) =
    (before : List (List X)) × (rest : List X) × (after : List (List X)) × (lists ≡ before ++ (x ∷ rest) ∷ after) × IsMerge (before ++ rest ∷ after) merged

-- what each lane of a phase brings, where the first lane has this number
abbrev pub brought : {X : Type 0} → (ℕ → Lane → List X) → ℕ → List Lane → List (List X)
brought brings number [] = []
brought brings number (lane ∷ lanes) = brings number lane ∷ brought brings (number + 1) lanes

-- The list is what the lanes of each phase bring, merged, one phase after another; the first lane has this number.
abbrev pub InPhases : {X : Type 0} → (ℕ → Lane → List X) → ℕ → List (List Lane) → List X → Type 0
InPhases brings number [] list = list ≡ []
InPhases {X} brings number (lanes ∷ phases) list =
    (part : List X) × (rest : List X) × (list ≡ part ++ rest) × IsMerge (brought brings number lanes) part × InPhases brings (number + length lanes) phases rest

-- ---- the journal
-- A move of a schedule, as the journal tells it: a call is taken, or done, or the clock goes on by seconds.
pub data Move : Type 0 where
  taken : CallId → Move
  done : CallId → Move
  ticked : ℕ → Move

abbrev pub move_of : Entry → Move
move_of (journal.taken call front request) = taken call
move_of (journal.done call front how uses fill) = done call
move_of (journal.ticked front seconds) = ticked seconds

-- the calls of a lane one after another, the first of which has this index: each is taken and then done
abbrev pub call_moves : ℕ → ℕ → List Call → List Move
call_moves lane index [] = []
call_moves lane index (call ∷ more) =
    taken (record { lane = lane; index = index }) ∷ done (record { lane = lane; index = index }) ∷ call_moves lane (index + 1) more

abbrev pub moves_of : ℕ → Lane → List Move
moves_of number (calls cs) = call_moves number 1 cs
moves_of number (remote ops) = []
moves_of number (clock steps) = map ticked steps

-- ---- the log
-- the operations of a remote writer, with the number of its lane
abbrev pub operations_of : ℕ → Lane → List (ℕ × Operation)
operations_of number (remote ops) = map (λ op. (number, op)) ops
operations_of number lane = []

-- those that remote writers made
abbrev pub remotely_made : List (List Lane) → List LogEvent → List (ℕ × Operation)
remotely_made phases log = map (λ (e : LogEvent). (e.lane, e.op)) (filter (λ (e : LogEvent). is_remote (lane_at phases e.lane)) log)
