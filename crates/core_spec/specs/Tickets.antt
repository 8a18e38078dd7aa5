-- A call under way on a mount that many share: what contracts see of its ticket, and how far it has gone.
use Rattle.std.specs.Prelude.{◌≡◌, ◌≢◌, ℕ, Bool, true, false, List, [], ◌∷◌, ◌++◌, All, length}
use Rattle.bucket_api.specs.LogEvent.{LogEvent}
use Rattle.bucket_api.specs.Operation.{Operation}
use Rattle.bucket_api.specs.Passes.{Acts, PassState, SeesMore, split_pass}
use Rattle.bucket_api.specs.declared.answers.Answer.{Answer}
use Rattle.fuse_requests.specs.declared.request.Request.{Request}
use Rattle.history_spec.specs.Account.{Account, Item, looked, made, recalled}
use Rattle.history_spec.specs.Claims.{plan_taken}
use Rattle.history_spec.specs.Fits.{EndsBy, HasWalked}
use Rattle.history_spec.specs.JournalState.{OpenCall}
use Rattle.history_spec.specs.Laws.{IsTaken}
use Rattle.history_spec.specs.Observing.{seen_by}
use Rattle.lane_spec.specs.declared.Numbers.TheVariants.{Only}
use Rattle.mount_model.specs.Journal as journal
use Rattle.mount_model.specs.Journal.{Entry}
use Rattle.mount_model.specs.Observing.{Observed}
use Rattle.mount_model.specs.declared.gate.CallId.{CallId}
use Rattle.mount_model.specs.declared.journal.How.{How}
use Rattle.mount_model.specs.declared.journal.How.TheVariants as how
use Rattle.mount_rules.specs.Dispatch.{wants}
use Rattle.thrift_spec.specs.Laws.{call_at}
use Rattle.thrift_spec.specs.Thrift.{AllThrifty, ReadsAre, reads_of}
use Rattle.core_spec.specs.Cores.{CoreState, Tells, come_to, core_by, kept_by}

-- The mount as it stood when the call was taken; the call and its request; its pass of the bucket, for its lane alone; whether
-- it has nothing left to do; and whether memory was refused to it.
pub record TicketState (P : Type 0) : Type 0 where
  pub core : CoreState P
  pub call : CallId
  pub request : Request
  pub pass : P
  pub ended : Bool
  pub short : Bool

-- as the passes tell
abbrev pub ticket_by : {P I : Type 0} → (P → PassState I) → TicketState P → TicketState (PassState I)
ticket_by told t = record { core = core_by told t.core; call = t.call; request = t.request; pass = told t.pass; ended = t.ended; short = t.short }

-- how it ends
abbrev pub how_of : Bool → How
how_of true = how.NoMemory
how_of false = how.Ok

-- an item without the flag of its record, which only the end of the call decides
abbrev pub unflagged : Item → Item
unflagged (looked moment kept) = looked moment false
unflagged (recalled moment) = recalled moment
unflagged (made moment) = made moment

-- no end of a call of this lane
abbrev pub NotEnded : ℕ → Entry → Type 0
NotEnded lane (journal.taken call front request) = Unit {0}
NotEnded lane (journal.done call front how uses fill) = call.lane ≢ lane
NotEnded lane (journal.ticked front seconds) = Unit {0}

module _ {I : Type 0} where
  -- as it was taken
  abbrev pub first_ticket : CoreState (PassState I) → CallId → Request → TicketState (PassState I)
  first_ticket core call request = record { core = core; call = call; request = request; pass = split_pass core.pass call.lane; ended = false; short = false }

  -- the call as it was taken
  abbrev pub call_of : TicketState (PassState I) → Account → OpenCall
  call_of t told = call_at t.core.config t.core.pass.origin.start t.core.pass.seen (come_to t.core told) t.call (length t.core.pass.seen) t.request

  -- the reads that it is to make, by the files that were kept at its take
  abbrev pub reads_to_make : TicketState (PassState I) → Account → List Operation
  reads_to_make t told =
      reads_of t.core.config.cache_blocks (kept_by t.core told).files (call_of t told).taken.at.contents (wants t.core.config (come_to t.core told).mount t.request)

  -- what its call has seen so far with these items
  abbrev pub seen_so_far : TicketState (PassState I) → List Item → List Observed
  seen_so_far t items = seen_by t.core.pass.origin.start t.pass.seen items

  -- its take, as the journal has it
  abbrev pub entry_of : TicketState (PassState I) → Entry
  entry_of t = journal.taken t.call (length t.core.pass.seen) t.request

  -- What its pass is: of the same bucket, and with its lane alone; and it has seen more of the log, in which its lane made what
  -- the pass made.
  pub record IsPassOf (t : TicketState (PassState I)) : Type 0 where
    pub origin : t.pass.origin ≡ t.core.pass.origin
    pub lane : t.pass.lane ≡ t.call.lane
    pub held : t.pass.held ≡ Only (t.call.lane ∷ [])
    pub more : List LogEvent
    pub seen : t.pass.seen ≡ t.core.pass.seen ++ more

  -- The mount was told of by an account, by which the call could be taken; and from there it has walked along its plan, over what
  -- its pass has seen.
  pub record IsUnderWay (t : TicketState (PassState I)) : Type 0 where
    pub pass : IsPassOf t
    pub told : Account
    pub tells : Tells t.core told
    pub taken : IsTaken t.core.config t.core.pass.origin.start t.core.pass.seen (come_to t.core told) (call_of t told)
    pub items : List Item
    pub walk : HasWalked t.core.pass.origin.start t.pass.seen (plan_taken (call_of t told).taken) (call_of t told) (length t.pass.seen) items
    pub looks : AllThrifty t.core.pass.origin.start t.pass.seen (call_of t told) (kept_by t.core told).records items
    pub ends : t.ended ≡ true → EndsBy (how_of t.short) (plan_taken (call_of t told).taken) (seen_by t.core.pass.origin.start t.pass.seen items)
    pub reads : t.ended ≡ true → ReadsAre (how_of t.short) (reads_to_make t told) (seen_by t.core.pass.origin.start t.pass.seen items)

  -- The journal's call under way of the ticket's lane is the ticket's: behind what was there at its take stand the take and no
  -- end of its lane.
  pub record IsOf (core : CoreState (PassState I)) (t : TicketState (PassState I)) : Type 0 where
    pub origin : t.core.pass.origin ≡ core.pass.origin
    pub config : t.core.config ≡ core.config
    pub rest : List Entry
    pub journal : core.journal ≡ t.core.journal ++ entry_of t ∷ rest
    pub unended : All (NotEnded t.call.lane) rest

  -- ---- steps
  -- one more operation was made, and nothing else has changed but what the pass knows
  pub record Makes (before after : TicketState (PassState I)) : Type 0 where
    pub op : Operation
    pub moment : ℕ
    pub answer : Answer
    pub acts : Acts op before.pass after.pass moment answer
    pub kept : after ≡ record before { pass = after.pass }

  -- nothing is left to do: nothing was made, and the call has ended, or memory was refused to it
  pub record Stops (before after : TicketState (PassState I)) : Type 0 where
    pub sees : SeesMore before.pass after.pass
    pub kept : after ≡ record before { pass = after.pass; ended = true; short = after.short }

  abbrev pub Steps : Bool → TicketState (PassState I) → TicketState (PassState I) → Type 0
  Steps true before after = Makes before after
  Steps false before after = Stops before after
