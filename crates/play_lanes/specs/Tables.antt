-- What replies give to the frames of later calls: numbers, in a table with a row for each lane.
use Rattle.std.specs.Prelude.{◌≡◌, ℕ, ◌+◌, if◌then◌else◌, List, [], ◌∷◌, ◌++◌, fold, length, Option, option_map, unwrap_or}
use Rattle.std.specs.Option.{option_map_or}
use Rattle.fuse_replies.specs.declared.reply.Reply.{Reply}
use Rattle.legal_spec.specs.Frames.{Replies, handle_given, node_given, reply_of, written_at}
use Rattle.legal_spec.specs.Schedules.{numbered}
use Rattle.mount_model.specs.declared.gate.CallId.{CallId}
use Rattle.play_lanes.specs.declared.given.Given.{Given}
use Rattle.scenario.specs.Parts.{Call}
use Rattle.scenario.specs.declared.call.Fix.{Fix}

-- what a reply gives: the number of a node and that of a handle, 0 where it gives none
abbrev pub given_by : Reply → Given
given_by reply = record { node = node_given reply; handle = handle_given reply }

-- Each lane that has begun has a row, which has what the replies of its calls give, one call after another.
abbrev pub Table : Type 0
Table = List (List Given)

abbrev pub row_of : {X : Type 0} → List (List X) → ℕ → List X
row_of table lane = unwrap_or (numbered table lane) []

abbrev pub given_at : Table → CallId → Option Given
given_at table call = numbered (row_of table call.lane) call.index

-- one more call in the last lane
abbrev pub with_last : {X : Type 0} → List (List X) → X → List (List X)
with_last [] x = []
with_last (row ∷ []) x = (row ++ x ∷ []) ∷ []
with_last (row ∷ rows) x = row ∷ with_last rows x

-- the next call of the last lane
abbrev pub next_call : Table → CallId
next_call table = record { lane = length table; index = length (row_of table (length table)) + 1 }

-- the table has what these replies give, and nothing else
abbrev pub AreGiven : Table → Replies → Type 0
AreGiven table replies = (call : CallId) → given_at table call ≡ option_map given_by (reply_of replies call)

-- the number that a fixup takes, 0 where its call has no reply
abbrev pub number_in : Table → Fix → ℕ
number_in table fix = option_map_or (λ (g : Given). if fix.handle then g.handle else g.node) (given_at table fix.call) 0

-- the frame of a call after its fixups, which are written in order
abbrev pub frame_in : Table → Call → List ℕ
frame_in table call = fold (λ frame (fix : Fix). written_at frame fix.at (number_in table fix)) call.frame call.fixes
