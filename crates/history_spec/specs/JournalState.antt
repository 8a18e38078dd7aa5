-- What the turns of a mount have come to: the mount, its clock, how much of the log it had seen, the calls under way and
-- those that are done, with their replies.
use Rattle.std.specs.Prelude.{ℕ, ◌+◌, ◌==◌, not, List, [], ◌∷◌, Option, filter, find, map, reverse, take}
use Rattle.std.specs.Option.{option_map_or}
use Rattle.bucket_api.specs.BucketState.{BucketState}
use Rattle.bucket_api.specs.LogEvent.{LogEvent}
use Rattle.fuse_replies.specs.Errno.{enomem}
use Rattle.fuse_replies.specs.declared.reply.Reply.{Reply}
use Rattle.fuse_replies.specs.declared.reply.Reply.TheVariants.{Error}
use Rattle.history_spec.specs.Account as account
use Rattle.history_spec.specs.Account.{Account, Item, Turn, own_moments_of}
use Rattle.history_spec.specs.Observing.{seen_by}
use Rattle.history_spec.specs.Pasts.{joined, past_by}
use Rattle.mount_model.specs.declared.config.Config.{Config}
use Rattle.mount_model.specs.declared.gate.CallId.{CallId}
use Rattle.mount_model.specs.declared.journal.How.{How}
use Rattle.mount_model.specs.declared.journal.How.TheVariants as how
use Rattle.mount_rules.specs.Dispatch.{mount_after, reply_to}
use Rattle.mount_rules.specs.Mount.{MountModel, first_mount, second_at}
use Rattle.mount_rules.specs.OneThread.{contents_of}
use Rattle.mount_rules.specs.Overlap as overlap
use Rattle.mount_rules.specs.Overlap.{opened_at}
use Rattle.mount_rules.specs.Rules.{AtTake}
use Rattle.record_spec.specs.Past.{Past, no_past}

-- A call that is done: the moments of its own events; what it saw of keys, used and wrote; and what it was answered.
pub record EndedCall : Type 0 where
  pub call : CallId
  pub own : List ℕ
  pub past : Past
  pub reply : Reply

-- A call under way: the seconds since the mount's start, and how much of the log the mount had seen, at its take; its request, what it has and saw from its take, and
-- the claims that it holds; and which calls were done before.
pub record OpenCall : Type 0 where
  pub call : CallId
  pub clock : ℕ
  pub front : ℕ
  pub taken : overlap.OpenCall
  pub before : List EndedCall

pub record JournalState : Type 0 where
  pub mount : MountModel
  -- the seconds since the mount's start
  pub clock : ℕ
  -- the events of the log that the mount had seen at the last turn
  pub front : ℕ
  -- the latest first, both
  pub opened : List OpenCall
  pub ended : List EndedCall

-- before the first turn
abbrev pub first_journal : JournalState
first_journal = record { mount = first_mount; clock = 0; front = 0; opened = []; ended = [] }

-- what all these calls saw of keys, used and wrote
abbrev pub past_of : List EndedCall → Past
past_of [] = no_past
past_of (e ∷ ended) = joined e.past (past_of ended)

-- the call of a lane that is under way, and the others
abbrev pub open_of : List OpenCall → ℕ → Option OpenCall
open_of opened lane = find (λ (o : OpenCall). o.call.lane == lane) opened

abbrev pub others_of : List OpenCall → ℕ → List OpenCall
others_of opened lane = filter (λ (o : OpenCall). not (o.call.lane == lane)) opened

-- what a call has from a take at this front: what each generation holds is told by the events up to there
abbrev pub at_front : Config → BucketState → List LogEvent → ℕ → ℕ → AtTake
at_front config start log clock front =
    record { config = config; second = second_at config clock; contents = contents_of (record { start = start; log = take front log }) }

-- what a call under way is answered that ends so at this mount, and what it leaves
abbrev pub reply_by : BucketState → List LogEvent → MountModel → OpenCall → How → List Item → Reply
reply_by start log mount o how.Ok items = reply_to o.taken.at mount o.taken.request (seen_by start log items)
reply_by start log mount o how.NoMemory items = Error enomem

abbrev pub mount_by : BucketState → List LogEvent → MountModel → OpenCall → How → List Item → MountModel
mount_by start log mount o how.Ok items = mount_after o.taken.at mount o.taken.request (seen_by start log items)
mount_by start log mount o how.NoMemory items = mount

abbrev pub ended_by : BucketState → List LogEvent → MountModel → OpenCall → How → List Item → EndedCall
ended_by start log mount o how items = record {
  call = o.call;
  own = own_moments_of items;
  past = past_by start log o.clock items;
  reply = reply_by start log mount o how items;
}

abbrev pub after_done : BucketState → List LogEvent → JournalState → ℕ → How → List Item → OpenCall → JournalState
after_done start log state front how items o = record state {
  mount = mount_by start log state.mount o how items;
  front = front;
  opened = others_of state.opened o.call.lane;
  ended = ended_by start log state.mount o how items ∷ state.ended;
}

-- a call that is taken with this, at this front
abbrev pub taken_by : JournalState → CallId → ℕ → overlap.OpenCall → OpenCall
taken_by state call front taken = record { call = call; clock = state.clock; front = front; taken = taken; before = state.ended }

abbrev pub with_taken : JournalState → OpenCall → JournalState
with_taken state o = record state { front = o.front; opened = o ∷ state.opened }

-- what a turn makes of it
abbrev pub after_turn : Config → BucketState → List LogEvent → JournalState → Turn → JournalState
after_turn config start log state (account.take call front request) =
    with_taken state (taken_by state call front (opened_at (at_front config start log state.clock front) state.mount request))
after_turn config start log state (account.done call front how items fill) =
    option_map_or (after_done start log state front how items) (open_of state.opened call.lane) state
after_turn config start log state (account.tick front seconds) = record state { clock = state.clock + seconds; front = front }

abbrev pub after_turns : Config → BucketState → List LogEvent → JournalState → Account → JournalState
after_turns config start log state [] = state
after_turns config start log state (turn ∷ turns) = after_turns config start log (after_turn config start log state turn) turns

-- the state after the turns of a mount from its first one on
abbrev pub reached : Config → BucketState → List LogEvent → Account → JournalState
reached config start log turns = after_turns config start log first_journal turns

-- the replies of the calls that are done, in the order of their ends
abbrev pub replies_of : JournalState → List (CallId × Reply)
replies_of state = reverse (map (λ (e : EndedCall). (e.call, e.reply)) state.ended)
