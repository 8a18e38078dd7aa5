-- The laws of tickets, as statements: each is under way from its take on, by what its pass sees, by each operation and to its end.
use Rattle.std.specs.Prelude.{◌≡◌, ◌+◌, ◌≤◌, ℕ, All, Bool, true, false, List, [], ◌∷◌, ◌++◌, length, Some}
use Rattle.bucket_api.specs.LogEvent.{LogEvent}
use Rattle.bucket_api.specs.Moments.{moment_at}
use Rattle.bucket_api.specs.Passes.{LogGoesOn, PassState}
use Rattle.core_spec.specs.Cores.{CoreState, Tells, come_to, kept_by}
use Rattle.core_spec.specs.Takes.{IsTakenOn}
use Rattle.core_spec.specs.Tickets.{IsOf, IsUnderWay, NotEnded, TicketState, call_of, first_ticket, how_of, reads_to_make, seen_so_far}
use Rattle.fuse_requests.specs.declared.request.Request.{Request}
use Rattle.history_spec.specs.Account.{Account, Item, recalled}
use Rattle.history_spec.specs.Claims.{plan_taken}
use Rattle.history_spec.specs.Fits.{EndsBy, HasWalked, MayTell, ended_in}
use Rattle.history_spec.specs.Laws.{IsOwnAt, shown_by}
use Rattle.history_spec.specs.Looks.{IsLook, MayRecall}
use Rattle.history_spec.specs.Observing.{observed_at}
use Rattle.lane_spec.specs.Numbers.{has}
use Rattle.mount_model.specs.Journal.{Entry}
use Rattle.mount_model.specs.Observing.{Observed}
use Rattle.mount_model.specs.declared.gate.CallId.{CallId}
use Rattle.mount_rules.specs.Plans.{Allows, answers_of}
use Rattle.thrift_spec.specs.Thrift.{AllThrifty, IsThrifty, ReadsAre}

module _ (I : Type 0) where
  -- its pass has seen so much of the log
  abbrev pub with_log : TicketState (PassState I) → List LogEvent → List LogEvent → ℕ → TicketState (PassState I)
  with_log t log mine faults = record t { pass = record t.pass { seen = log; mine = mine; faults = faults } }

  -- The call is under way from its take on, with what records served at once.
  pub record Begins (t : TicketState (PassState I)) (told : Account) (items : List Item) : Type 0 where
    pub way : IsUnderWay t
    pub told_is : way.told ≡ told
    pub items_are : way.items ≡ items

  abbrev pub TicketsBegin : Type 0
  TicketsBegin = (core : CoreState (PassState I)) (told : Account) (call : CallId) (request : Request) (items : List Item) → Tells core told → has core.pass.held call.lane ≡ true
      → call.index ≡ ended_in (come_to core told) call.lane + 1
      → HasWalked core.pass.origin.start core.pass.seen (plan_taken (call_of (first_ticket core call request) told).taken) (call_of (first_ticket core call request) told) (length core.pass.seen) items
      → AllThrifty core.pass.origin.start core.pass.seen (call_of (first_ticket core call request) told) (kept_by core told).records items
      → Begins (first_ticket core call request) told items

  -- The call has gone on, by the same account of its take, and has these items.
  pub record HasGoneOn (before after : TicketState (PassState I)) (way : IsUnderWay before) (items : List Item) (seen : List Observed) : Type 0 where
    pub way_on : IsUnderWay after
    pub told : way_on.told ≡ way.told
    pub items_are : way_on.items ≡ items
    pub seen_is : seen_so_far after items ≡ seen

  -- its pass sees more, in which is nothing of its lane
  abbrev pub TicketsSee : Type 0
  TicketsSee = (t : TicketState (PassState I)) (log mine : List LogEvent) (faults : ℕ) (way : IsUnderWay t) → LogGoesOn t.pass.held t.pass.seen log
      → HasGoneOn t (with_log t log mine faults) way way.items (seen_so_far t way.items)

  -- its pass makes what the plan allows next, as an item of its own tells, and thriftily
  abbrev pub TicketsMake : Type 0
  TicketsMake = (t : TicketState (PassState I)) (before mine : List LogEvent) (event : LogEvent) (faults : ℕ) (item : Item) (way : IsUnderWay t)
      → t.ended ≡ false → LogGoesOn t.pass.held t.pass.seen before → event.lane ≡ t.call.lane
      → Allows (plan_taken (call_of t way.told).taken (answers_of (seen_so_far t way.items))) event.op
      → IsOwnAt (moment_at (length before)) item → MayTell (call_of t way.told) event.op item
      → IsThrifty t.core.pass.origin.start (before ++ event ∷ []) (call_of t way.told) (kept_by t.core way.told).records item (shown_by t.core.pass.origin.start before event)
      → HasGoneOn t (with_log t (before ++ event ∷ []) mine faults) way (way.items ++ item ∷ []) (seen_so_far t way.items ++ shown_by t.core.pass.origin.start before event ∷ [])

  -- a record that was found at its take serves a look that the plan allows next, also behind operations of its own: nothing is made
  abbrev pub TicketsRecall : Type 0
  TicketsRecall = (t : TicketState (PassState I)) (moment : ℕ) (seen : Observed) (way : IsUnderWay t)
      → t.ended ≡ false → observed_at t.core.pass.origin.start t.core.pass.seen moment ≡ Some seen → moment ≤ length t.core.pass.seen
      → Allows (plan_taken (call_of t way.told).taken (answers_of (seen_so_far t way.items))) seen.op → IsLook seen.op → MayRecall (call_of t way.told) seen.op moment
      → IsThrifty t.core.pass.origin.start t.pass.seen (call_of t way.told) (kept_by t.core way.told).records (recalled moment) seen
      → HasGoneOn t t way (way.items ++ recalled moment ∷ []) (seen_so_far t way.items ++ seen ∷ [])

  -- it has nothing left to do where its plan may end and all reads are made, or where memory was refused to it and it may be short
  abbrev pub TicketsStop : Type 0
  TicketsStop = (t : TicketState (PassState I)) (short : Bool) (way : IsUnderWay t) → EndsBy (how_of short) (plan_taken (call_of t way.told).taken) (seen_so_far t way.items)
      → ReadsAre (how_of short) (reads_to_make t way.told) (seen_so_far t way.items)
      → HasGoneOn t (record t { ended = true; short = short }) way way.items (seen_so_far t way.items)

  -- ---- which mount it is of
  -- a ticket is of the mount that its take left
  abbrev pub TicketsAreOf : Type 0
  TicketsAreOf = (before after : CoreState (PassState I)) (call : CallId) (request : Request) (t : TicketState (PassState I)) → IsTakenOn before after call request t → IsOf after t

  -- and stays so by whatever else is added to the journal, as long as no call of its lane is done
  abbrev pub TicketsStayOf : Type 0
  TicketsStayOf = (before after : CoreState (PassState I)) (more : List Entry) (t : TicketState (PassState I)) → IsOf before t → before.pass.origin ≡ after.pass.origin → before.config ≡ after.config
      → after.journal ≡ before.journal ++ more → All (NotEnded t.call.lane) more → IsOf after t
