-- The frame of a scripted call: earlier replies' numbers are written into it before it is served.
use Rattle.std.specs.Prelude.{ℕ, ◌+◌, Bool, ◌==◌, ◌&&◌, if◌then◌else◌, List, ◌++◌, find, fold, take, drop, Option, option_map}
use Rattle.std.specs.Option.{option_map_or}
use Rattle.fuse_head.specs.Little.{u64_bytes}
use Rattle.fuse_replies.specs.declared.reply.Reply.{Reply}
use Rattle.fuse_replies.specs.declared.reply.Reply.TheVariants.{Created, Entry, Opened}
use Rattle.mount_model.specs.declared.gate.CallId.{CallId}
use Rattle.scenario.specs.Parts.{Call}
use Rattle.scenario.specs.declared.call.Fix.{Fix}

-- the replies of calls, in the order of their ends
abbrev pub Replies : Type 0
Replies = List (CallId × Reply)

abbrev pub is_call : CallId → CallId → Bool
is_call one other = one.lane == other.lane && one.index == other.index

abbrev pub reply_of : Replies → CallId → Option Reply
reply_of replies call = option_map (λ r. r.1) (find (λ r. is_call r.0 call) replies)

-- the node that a reply gives, and the handle; 0 where it gives none
abbrev pub node_given : Reply → ℕ
node_given (Entry entry) = entry.node
node_given (Created entry fh) = entry.node
node_given reply = 0

abbrev pub handle_given : Reply → ℕ
handle_given (Opened fh) = fh
handle_given (Created entry fh) = fh
handle_given reply = 0

-- what a fixup writes: the one or the other of its call's reply
abbrev pub number_taken : Replies → Fix → ℕ
number_taken replies fix = option_map_or (if fix.handle then handle_given else node_given) (reply_of replies fix.call) 0

-- a number written over the eight bytes from a place on, the lowest byte first
abbrev pub written_at : List ℕ → ℕ → ℕ → List ℕ
written_at frame place number = take place frame ++ u64_bytes number ++ drop (place + 8) frame

-- the frame of a call after its fixups, which are written in order
abbrev pub frame_by : Replies → Call → List ℕ
frame_by replies call = fold (λ frame (fix : Fix). written_at frame fix.at (number_taken replies fix)) call.frame call.fixes
