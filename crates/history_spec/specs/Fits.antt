-- How the log of a bucket explains the journal of a mount: each call that is done walked along its plan, by what its items
-- tell, and its own items are all that its lane made meanwhile.
use Rattle.std.specs.Prelude.{◌≡◌, ◌≢◌, ℕ, ◌+◌, ◌≤◌, ◌==◌, List, [], ◌∷◌, ◌++◌, filter, length, take, Some, None}
use Rattle.std.specs.List.{AllByRecursion}
use Rattle.bucket_api.specs.BucketState.{BucketState}
use Rattle.bucket_api.specs.LogEvent.{LogEvent}
use Rattle.bucket_api.specs.Operation.{Operation}
use Rattle.history_spec.specs.Account as account
use Rattle.history_spec.specs.Account.{Account, Item, Turn, front_of, journal_of, looked, recalled, made, moment_of, own_moments_of}
use Rattle.history_spec.specs.JournalState.{EndedCall, JournalState, OpenCall, after_turn, first_journal, open_of, reached}
use Rattle.history_spec.specs.Looks.{AreUnseen, IsLook, MayRecall}
use Rattle.history_spec.specs.Observing.{observed_at, own_moments, seen_by}
use Rattle.mount_model.specs.Journal.{Entry}
use Rattle.mount_model.specs.Observing.{Observed}
use Rattle.mount_model.specs.declared.config.Config.{Config}
use Rattle.mount_model.specs.declared.journal.How.{How}
use Rattle.mount_model.specs.declared.journal.How.TheVariants as how
use Rattle.mount_rules.specs.Dispatch.{plan}
use Rattle.mount_rules.specs.Plans.{Allows, Completes, IsHarmless, Plan, Step, Walks, done}

-- ---- the walk of a call
-- An item may tell of this operation: of a look that the call made; of a look that a record served; or of an operation of
-- its own that is no look.
abbrev pub MayTell : OpenCall → Operation → Item → Type 0
MayTell o op (looked moment kept) = IsLook op
MayTell o op (recalled moment) = IsLook op × MayRecall o op moment
MayTell o op (made moment) = IsLook op → ⊥

-- the items that are left supply what is observed, one at each step
abbrev pub Supplies : BucketState → List LogEvent → OpenCall → List Item → Step → Observed → Type 0
Supplies start log o [] step seen = ⊥
Supplies start log o (item ∷ items) step seen =
    (observed_at start log (moment_of item) ≡ Some seen) × Allows step seen.op × MayTell o seen.op item

abbrev pub items_left : List Item → Observed → List Item
items_left [] seen = []
items_left (item ∷ items) seen = items

-- A call under way has walked so far along a plan with these items, at a front: the log tells what each observed, all of it
-- by then; they are a walk along the plan; and those of its own are all that its lane made since its take.
pub record HasWalked (start : BucketState) (log : List LogEvent) (plan : Plan) (o : OpenCall) (front : ℕ) (items : List Item) : Type 0 where
  pub told : length (seen_by start log items) ≡ length items
  pub within : AllByRecursion (λ item. moment_of item ≤ front) items
  pub walked : Walks (Supplies start log o) items_left plan items (seen_by start log items)
  pub own : own_moments_of items ≡ own_moments log o.call.lane o.front front

-- How a call may end after these observations: where its plan may; or short, for want of memory, if its plan asks anything
-- and what it made is no insert, update or delete.
abbrev pub EndsBy : How → Plan → List Observed → Type 0
EndsBy how.Ok plan seen = Completes plan seen
EndsBy how.NoMemory plan seen = (plan [] ≢ done) × AllByRecursion (λ (o : Observed). IsHarmless o.op) seen

-- what a call under way asks, at the mount as it stands
abbrev pub plan_of : JournalState → OpenCall → Plan
plan_of state o = plan o.taken.at state.mount o.taken.request

-- A call under way may be done with these items: it has walked with them along its plan, and it may end there. Of each call
-- that was done since its take, it has seen nothing by a stat, nor that call of it: whatever is seen of the mount's changes is
-- a call's own, or of one that was done before its take.
pub record MayBeDone (start : BucketState) (log : List LogEvent) (state : JournalState) (o : OpenCall) (front : ℕ) (how : How) (items : List Item) : Type 0 where
  pub walk : HasWalked start log (plan_of state o) o front items
  pub settled : (since : List EndedCall) → state.ended ≡ since ++ o.before → AllByRecursion (λ (e : EndedCall). AreUnseen start (take front log) (own_moments_of items) e.own) since
  pub ends : EndsBy how (plan_of state o) (seen_by start log items)

-- ---- turns
-- how many calls of a lane are done
abbrev pub ended_in : JournalState → ℕ → ℕ
ended_in state lane = length (filter (λ (e : EndedCall). e.call.lane == lane) state.ended)

-- A call that is taken is the next one of its lane, which has none under way; a call that is done is under way, and may be
-- done so; the clock may always go on.
abbrev pub IsNext : BucketState → List LogEvent → JournalState → Turn → Type 0
IsNext start log state (account.take call front request) = (open_of state.opened call.lane ≡ None) × (call.index ≡ ended_in state call.lane + 1)
IsNext start log state (account.done call front how items fill) =
    (o : OpenCall) × (open_of state.opened call.lane ≡ Some o) × (o.call ≡ call) × MayBeDone start log state o front how items
IsNext start log state (account.tick front seconds) = Unit {0}

-- a turn may follow: it is a next one, and what the mount has seen of the log never falls
pub record MayFollow (start : BucketState) (log : List LogEvent) (state : JournalState) (turn : Turn) : Type 0 where
  pub onward : state.front ≤ front_of turn
  pub next : IsNext start log state turn

-- turn by turn, each where it stands
abbrev pub Follows : Config → BucketState → List LogEvent → JournalState → Account → Type 0
Follows config start log state [] = Unit {0}
Follows config start log state (turn ∷ turns) = MayFollow start log state turn × Follows config start log (after_turn config start log state turn) turns

-- An account of a mount from its first turn on, over a log that has all that the mount had seen.
pub record IsAccount (config : Config) (start : BucketState) (log : List LogEvent) (account : Account) : Type 0 where
  pub follows : Follows config start log first_journal account
  pub within : (reached config start log account).front ≤ length log

-- The log explains the journal: it is what is printed of an account.
pub record Fits (config : Config) (start : BucketState) (log : List LogEvent) (journal : List Entry) : Type 0 where
  pub account : Account
  pub told : journal_of account ≡ journal
  pub is : IsAccount config start log account
