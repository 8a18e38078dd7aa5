-- The laws of a mount that many calls share, as statements.
use Rattle.std.specs.Prelude.{◌≡◌, ◌≢◌, ◌⊎◌, ◌+◌, ◌<◌, ℕ, true, Contains, List, [], ◌∷◌, ◌++◌, length, map, Some}
use Rattle.std.specs.List.{AllByRecursion}
use Rattle.bucket_api.specs.BucketState.{BucketState}
use Rattle.bucket_api.specs.Log.{event_at}
use Rattle.bucket_api.specs.LogEvent.{LogEvent}
use Rattle.bucket_api.specs.Passes.{LogGoesOn, PassState}
use Rattle.core_spec.specs.Beside.{IsAsked, WasApart}
use Rattle.core_spec.specs.Cores.{CoreState, IsTold, IsToldBy, IsUnused, Looks, Tells, come_to, done_at, take_at, tick_at, with_both, with_done, with_seen, with_take, with_tick}
use Rattle.core_spec.specs.Takes.{Learns, MayEndAtOnce, Meets}
use Rattle.core_spec.specs.Tickets.{IsOf, IsUnderWay, TicketState, how_of, unflagged}
use Rattle.fuse_requests.specs.declared.request.Request.{Request}
use Rattle.history_spec.specs.Account.{Account, Item, uses_of}
use Rattle.history_spec.specs.Claims.{shared_of}
use Rattle.history_spec.specs.Fits.{Fits, ended_in}
use Rattle.history_spec.specs.Looks.{AreUnseen}
use Rattle.history_spec.specs.JournalState.{EndedCall, JournalState, OpenCall, after_done, at_front, open_of}
use Rattle.mount_model.specs.declared.journal.Fill.{Fill}
use Rattle.mount_model.specs.declared.journal.How.TheVariants as how
use Rattle.mount_model.specs.declared.config.Config.{Config}
use Rattle.mount_model.specs.declared.gate.CallId.{CallId}
use Rattle.lane_spec.specs.Numbers.{has}
use Rattle.mount_rules.specs.Dispatch.{claims, plan}
use Rattle.mount_rules.specs.Overlap.{ApartFromAll}
use Rattle.mount_rules.specs.Plans.{done}

-- ---- many at once
-- the event at a moment is an own one of a call that is done, or stands above the front of the take of its lane's call under way
abbrev pub IsOfCalls : JournalState → ℕ → LogEvent → Type 0
IsOfCalls state moment event =
    ((e : EndedCall) × Contains state.ended e × Contains e.own moment)
    ⊎ ((o : OpenCall) × (open_of state.opened event.lane ≡ Some o) × (o.front < moment))

-- The log that its pass has seen explains the journal; and each event of a lane of its own is one of its calls'.
pub record IsExplained {I : Type 0} (core : CoreState (PassState I)) (state : JournalState) : Type 0 where
  pub fits : Fits core.config core.pass.origin.start core.pass.seen core.journal
  pub own : (moment : ℕ) (event : LogEvent) → event_at core.pass.seen moment ≡ Some event → has core.home event.lane ≡ true → IsOfCalls state moment event

module _ (I : Type 0) where
  abbrev pub LogExplains : Type 0
  LogExplains = (core : CoreState (PassState I)) (told : Account) → Tells core told → IsExplained core (come_to core told)

  -- ---- turns
  -- before its first call, no turns tell all of it, where its lanes have made nothing yet
  abbrev pub FirstIsTold : Type 0
  FirstIsTold = (config : Config) (pass : PassState I) → IsUnused pass → IsToldBy (record { config = config; pass = pass; home = pass.held; journal = [] }) []

  -- what told all of it still does when its pass has seen more, in which is nothing of a lane that it holds
  abbrev pub LooksStay : Type 0
  LooksStay = (core : CoreState (PassState I)) (log : List LogEvent) → LogGoesOn core.pass.held core.pass.seen log → Looks core (with_seen core log)

  abbrev pub LooksGoOn : Type 0
  LooksGoOn = (core : CoreState (PassState I)) (told : Account) (log : List LogEvent) → LogGoesOn core.pass.held core.pass.seen log → IsToldBy core told → IsToldBy (with_seen core log) told

  -- and goes on by the take of the next call of a lane that it holds, where no claims conflict and the call asks something
  abbrev pub TakesGoOn : Type 0
  TakesGoOn = (core : CoreState (PassState I)) (told : Account) (call : CallId) (request : Request)
      → IsToldBy core told → has core.pass.held call.lane ≡ true → call.index ≡ ended_in (come_to core told) call.lane + 1
      → ApartFromAll (claims (come_to core told).mount request) (shared_of (come_to core told)).open_calls
      → plan (at_front core.config core.pass.origin.start core.pass.seen (come_to core told).clock (length core.pass.seen)) (come_to core told).mount request [] ≢ done
      → IsToldBy (with_take core call request) (told ++ take_at core call request ∷ [])

  -- and by seconds that pass
  abbrev pub TicksGoOn : Type 0
  TicksGoOn = (core : CoreState (PassState I)) (told : Account) (seconds : ℕ) → IsToldBy core told → IsToldBy (with_tick core seconds) (told ++ tick_at core seconds ∷ [])

  -- and by the take and the end at once of one that may end so
  abbrev pub BothGoOn : Type 0
  BothGoOn = (core : CoreState (PassState I)) (told : Account) (call : CallId) (request : Request) (items : List Item) (fill : Fill)
      → IsToldBy core told → has core.pass.held call.lane ≡ true → call.index ≡ ended_in (come_to core told) call.lane + 1
      → ApartFromAll (claims (come_to core told).mount request) (shared_of (come_to core told)).open_calls → MayEndAtOnce core told call request items fill
      → IsToldBy (with_both core call request how.Ok (uses_of items) fill) (told ++ take_at core call request ∷ done_at core call how.Ok items fill ∷ [])

  -- and by the end of a call whose ticket has nothing left to do, once its pass is met, with the flags of what is learned
  pub record GoesOnByEnd (before met : CoreState (PassState I)) (t : TicketState (PassState I)) (told : Account) (items : List Item) (fill : Fill) : Type 0 where
    pub o : OpenCall
    pub found : open_of (come_to before told).opened t.call.lane ≡ Some o
    pub is : IsToldBy (with_done met t.call (how_of t.short) (uses_of items) fill) (told ++ done_at met t.call (how_of t.short) items fill ∷ [])
    pub reaches : come_to met (told ++ done_at met t.call (how_of t.short) items fill ∷ [])
        ≡ after_done met.pass.origin.start met.pass.seen (come_to before told) (length met.pass.seen) (how_of t.short) items o

  abbrev pub EndsGoOn : Type 0
  EndsGoOn = (before met : CoreState (PassState I)) (t : TicketState (PassState I)) (items : List Item) (fill : Fill)
      (told : IsTold before) (way : IsUnderWay t) → IsOf before t → t.ended ≡ true → Meets before t met → map unflagged items ≡ map unflagged way.items
      → ((o : OpenCall) → open_of (come_to met told.told).opened t.call.lane ≡ Some o → Learns met told.told o t.short items fill)
      → GoesOnByEnd before met t told.told items fill

-- ---- beside one another
-- a call that asked what its claims cover, and one that was done since its take and was apart from it, saw nothing of one another
abbrev pub CallsAreUnseen : Type 0
CallsAreUnseen = (start : BucketState) (log : List LogEvent) (o : OpenCall) (own : List ℕ) (e : EndedCall)
    → AllByRecursion (IsAsked log o.taken.claimed) own → WasApart log o e → AreUnseen start log own e.own
