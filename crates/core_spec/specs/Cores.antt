-- A mount that many calls share: what contracts see of it, and what an account tells of it.
use Rattle.std.specs.Prelude.{◌≡◌, ℕ, ◌+◌, ◌&&◌, true, false, not, All, List, [], ◌∷◌, ◌++◌, length, is_some}
use Rattle.std.specs.List.{AllByRecursion}
use Rattle.bucket_api.specs.LogEvent.{LogEvent}
use Rattle.bucket_api.specs.Passes.{LogGoesOn, PassState}
use Rattle.core_spec.specs.Beside.{AreBeside}
use Rattle.fuse_requests.specs.declared.request.Request.{Request}
use Rattle.history_spec.specs.Account as account
use Rattle.history_spec.specs.Account.{Account, Item, Turn, journal_of, uses_of}
use Rattle.history_spec.specs.Claims.{StandApart}
use Rattle.history_spec.specs.Fits.{IsAccount, ended_in}
use Rattle.history_spec.specs.JournalState.{EndedCall, JournalState, OpenCall, first_journal, open_of, reached}
use Rattle.history_spec.specs.Lanes.{IsCovered}
use Rattle.lane_spec.specs.Numbers.{has, together, without}
use Rattle.lane_spec.specs.declared.Numbers.{Numbers}
use Rattle.lane_spec.specs.declared.Numbers.TheVariants.{Only}
use Rattle.mount_model.specs.Journal as journal
use Rattle.mount_model.specs.Journal.{Entry}
use Rattle.mount_model.specs.declared.config.Config.{Config}
use Rattle.mount_model.specs.declared.gate.CallId.{CallId}
use Rattle.mount_model.specs.declared.journal.Fill.{Fill}
use Rattle.mount_model.specs.declared.journal.How.{How}
use Rattle.mount_model.specs.declared.journal.Use.{Use}
use Rattle.thrift_spec.specs.Thrift.{IsThriftyAccount, Kept, kept_at}

-- The settings; its pass of the bucket; the lanes of its calls, which are those that its first pass held; and the journal.
pub record CoreState (P : Type 0) : Type 0 where
  pub config : Config
  pub pass : P
  pub home : Numbers
  pub journal : List Entry

-- as its pass tells
abbrev pub core_by : {P I : Type 0} → (P → PassState I) → CoreState P → CoreState (PassState I)
core_by told core = record { config = core.config; pass = told core.pass; home = core.home; journal = core.journal }

-- before its first call
abbrev pub first_core : {P I : Type 0} → (P → PassState I) → Config → P → CoreState P
first_core told config pass = record { config = config; pass = pass; home = (told pass).held; journal = [] }

-- no lane that the pass holds has made an event that it has seen
abbrev pub IsUnused : {I : Type 0} → PassState I → Type 0
IsUnused pass = All (λ e. has pass.held e.lane ≡ false) pass.seen

-- the lanes of all calls, under way and done, are among these
pub record AreHome (home : Numbers) (state : JournalState) : Type 0 where
  pub opened : AllByRecursion (λ (o : OpenCall). has home o.call.lane ≡ true) state.opened
  pub ended : AllByRecursion (λ (e : EndedCall). has home e.call.lane ≡ true) state.ended

module _ {I : Type 0} where
  -- what an account of it has come to, and what the mount then keeps
  abbrev pub come_to : CoreState (PassState I) → Account → JournalState
  come_to core told = reached core.config core.pass.origin.start core.pass.seen told

  abbrev pub kept_by : CoreState (PassState I) → Account → Kept
  kept_by core told = kept_at core.config core.pass.origin.start core.pass.seen told

  -- The account tells all that the mount did: the journal is what is printed of it, and the log that the pass has seen
  -- explains it. Calls under way have no claims that conflict; what was looked up and read was not kept. All that its lanes
  -- made is their calls' own; and its pass holds each of its lanes but those of calls under way.
  pub record Tells (core : CoreState (PassState I)) (told : Account) : Type 0 where
    pub is : IsAccount core.config core.pass.origin.start core.pass.seen told
    pub printed : journal_of told ≡ core.journal
    pub apart : StandApart core.config core.pass.origin.start core.pass.seen first_journal told
    pub thrifty : IsThriftyAccount core.config core.pass.origin.start core.pass.seen told
    pub covered : (lane : ℕ) → has core.home lane ≡ true → IsCovered core.pass.seen (come_to core told) lane
    pub lanes : AreHome core.home (come_to core told)
    pub held : (lane : ℕ) → has core.pass.held lane ≡ has core.home lane && not (is_some (open_of (come_to core told).opened lane))

  -- The account tells all of it, and what calls beside one another asked is covered by claims that don't conflict.
  pub record IsToldBy (core : CoreState (PassState I)) (told : Account) : Type 0 where
    pub tells : Tells core told
    pub beside : AreBeside core.pass.seen (come_to core told).opened (come_to core told).ended

  -- some account does
  pub record IsTold (core : CoreState (PassState I)) : Type 0 where
    pub told : Account
    pub is : IsToldBy core told

  -- ---- what its pass sees
  abbrev pub with_seen : CoreState (PassState I) → List LogEvent → CoreState (PassState I)
  with_seen core log = record core { pass = record core.pass { seen = log } }

  -- The pass may have seen more of the log, and all else is as before: what told all still does, and comes to the same.
  pub record Looks (before after : CoreState (PassState I)) : Type 0 where
    pub more : LogGoesOn before.pass.held before.pass.seen after.pass.seen
    pub kept : after ≡ with_seen before after.pass.seen
    pub tells : (told : Account) → Tells before told → Tells after told
    pub same : (told : Account) → Tells before told → come_to after told ≡ come_to before told

  -- ---- turns, each at the end of what was seen
  abbrev pub take_at : CoreState (PassState I) → CallId → Request → Turn
  take_at core call request = account.take call (length core.pass.seen) request

  abbrev pub done_at : CoreState (PassState I) → CallId → How → List Item → Fill → Turn
  done_at core call how items fill = account.done call (length core.pass.seen) how items fill

  abbrev pub tick_at : CoreState (PassState I) → ℕ → Turn
  tick_at core seconds = account.tick (length core.pass.seen) seconds

  -- what it is then
  abbrev pub with_take : CoreState (PassState I) → CallId → Request → CoreState (PassState I)
  with_take core call request = record core {
    pass = record core.pass { held = without core.pass.held call.lane };
    journal = core.journal ++ journal.taken call (length core.pass.seen) request ∷ [];
  }

  abbrev pub with_both : CoreState (PassState I) → CallId → Request → How → List Use → Fill → CoreState (PassState I)
  with_both core call request how uses fill = record core {
    journal = core.journal ++ journal.taken call (length core.pass.seen) request ∷ journal.done call (length core.pass.seen) how uses fill ∷ [];
  }

  abbrev pub with_done : CoreState (PassState I) → CallId → How → List Use → Fill → CoreState (PassState I)
  with_done core call how uses fill = record core { journal = core.journal ++ journal.done call (length core.pass.seen) how uses fill ∷ [] }

  -- its pass with a lane that is back, and so many faults
  abbrev pub with_lane : CoreState (PassState I) → ℕ → ℕ → CoreState (PassState I)
  with_lane core lane faults = record core { pass = record core.pass { held = together core.pass.held (Only (lane ∷ [])); faults = faults } }

  abbrev pub with_tick : CoreState (PassState I) → ℕ → CoreState (PassState I)
  with_tick core seconds = record core { journal = core.journal ++ journal.ticked (length core.pass.seen) seconds ∷ [] }

  -- ---- calls
  -- the call is the next one of a lane of its own that has none under way
  pub record HasNext (core : CoreState (PassState I)) (call : CallId) : Type 0 where
    pub held : has core.pass.held call.lane ≡ true
    pub told : Account
    pub tells : Tells core told
    pub next : call.index ≡ ended_in (come_to core told) call.lane + 1
