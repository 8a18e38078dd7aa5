-- What the calls that are done left to go by, along any account: each told of its writes, and saw nothing that the mount had not
-- seen of the log.
use Rattle.std.proofs.Common.{◌≤◌, ℕ, List, [], ◌∷◌, All, Option, Some, None, sym, subst, arith}
use Rattle.std.proofs.lemmas.List.Elements.{All-append, All-cons, All-nil, All-weaker}
use Rattle.std.specs.List.{AllByRecursion, cons_option}
use Rattle.std.specs.Option.{option_map_or}
use Rattle.std.specs.Prelude.{option_and_then, option_map}
use Rattle.bucket_api.specs.BucketState.{BucketState}
use Rattle.bucket_api.specs.LogEvent.{LogEvent}
use Rattle.history_laws.proofs.Records.{TellsWrites, items_tell}
use Rattle.history_spec.proofs.Walking.{Walked-walks}
use Rattle.history_spec.specs.Account as account
use Rattle.history_spec.specs.Account.{Account, Item, Turn, looked, made, moment_of, own_moments_of, recalled}
use Rattle.history_spec.specs.Fits.{Follows, MayBeDone, MayFollow, plan_of}
use Rattle.history_spec.specs.JournalState.{EndedCall, JournalState, OpenCall, after_done, after_turn, after_turns, ended_by, past_of}
use Rattle.history_spec.specs.Observing.{observed_at}
use Rattle.history_spec.specs.Pasts.{key_of, saw, shown_of, told_by}
use Rattle.mount_model.specs.Observing.{Observed}
use Rattle.mount_model.specs.declared.config.Config.{Config}
use Rattle.mount_model.specs.declared.journal.How.{How}
use Rattle.record_spec.specs.RecordList.{Key}
use Rattle.record_spec.specs.declared.records.Record.{Record}
use Rattle.record_spec.specs.declared.records.Shown.{Shown}

-- nothing that was seen came behind this front
abbrev pub SawWithin : ℕ → List (Key × Record) → Type 0
SawWithin front seen = All (λ (u : Key × Record). u.1.moment ≤ front) seen

module _ (start : BucketState) (log : List LogEvent) where
  pub items_within : (clock front : ℕ) (items : List Item) → AllByRecursion (λ item. moment_of item ≤ front) items → SawWithin front (told_by start log (saw clock) items)
  items_within clock front [] all = All-nil (λ (u : Key × Record). u.1.moment ≤ front)
  items_within clock front (item ∷ items) all = by item all.0 (observed_at start log (moment_of item)) (items_within clock front items all.1)
    where
      rest : List (Key × Record)
      rest = told_by start log (saw clock) items

      shows : (op_key : Key) (moment : ℕ) → moment ≤ front → (shown : Option Shown) → SawWithin front rest
          → SawWithin front (cons_option (option_map (λ s. (op_key, record { moment = moment; tick = clock; shown = s })) shown) rest)
      shows op_key moment within None later = later
      shows op_key moment within (Some s) later =
          All-cons (λ (u : Key × Record). u.1.moment ≤ front) (op_key, record { moment = moment; tick = clock; shown = s }) rest within later

      by : (i : Item) → moment_of i ≤ front → (seen : Option Observed) → SawWithin front rest → SawWithin front (cons_option (option_and_then (saw clock i) seen) rest)
      by (looked moment kept) within None later = later
      by (recalled moment) within None later = later
      by (made moment) within None later = later
      by (looked moment kept) within (Some o) later = shows (key_of o.op) moment within (shown_of o.answer) later
      by (recalled moment) within (Some o) later = later
      by (made moment) within (Some o) later = later

  -- A call that is done told of its writes, and saw nothing behind this front.
  pub record IsToldPast (front : ℕ) (e : EndedCall) : Type 0 where
    pub writes : TellsWrites start log e.own e.past.written
    pub within : SawWithin front e.past.seen

  abbrev pub AreToldPasts : ℕ → List EndedCall → Type 0
  AreToldPasts front ended = AllByRecursion (IsToldPast front) ended

  told_later : (front later : ℕ) (ended : List EndedCall) → front ≤ later → AreToldPasts front ended → AreToldPasts later ended
  told_later front later [] onward all = tt
  told_later front later (e ∷ ended) onward all = (
    record {
      writes = all.0.writes;
      within = All-weaker (λ (u : Key × Record). u.1.moment ≤ front) (λ (u : Key × Record). u.1.moment ≤ later) (λ u low. omega (arith, low, onward)) e.past.seen all.0.within;
    },
    told_later front later ended onward all.1,
  )

  pub past_within : (front : ℕ) (ended : List EndedCall) → AreToldPasts front ended → SawWithin front (past_of ended).seen
  past_within front [] all = All-nil (λ (u : Key × Record). u.1.moment ≤ front)
  past_within front (e ∷ ended) all = All-append (λ (u : Key × Record). u.1.moment ≤ front) e.past.seen (past_of ended).seen all.0.within (past_within front ended all.1)

  ended_told : (state : JournalState) (o : OpenCall) (front : ℕ) (h : How) (items : List Item) → MayBeDone start log state o front h items
      → IsToldPast front (ended_by start log state.mount o h items)
  ended_told state o front h items may = record {
    writes = items_tell start log o (plan_of state o) items (Walked-walks start log o (plan_of state o) items may.walk.told may.walk.walked);
    within = items_within o.clock front items may.walk.within;
  }

  module _ (config : Config) where
    told_turn : (state : JournalState) (turn : Turn) → MayFollow start log state turn → AreToldPasts state.front state.ended
        → AreToldPasts (after_turn config start log state turn).front (after_turn config start log state turn).ended
    told_turn state (account.take call front request) may all = told_later state.front front state.ended may.onward all
    told_turn state (account.tick front seconds) may all = told_later state.front front state.ended may.onward all
    told_turn state (account.done call front h items fill) may all =
        subst (λ found. AreToldPasts (option_map_or (after_done start log state front h items) found state).front (option_map_or (after_done start log state front h items) found state).ended)
        (sym may.next.1) (ended_told state may.next.0 front h items may.next.3, told_later state.front front state.ended may.onward all)

    -- so it is along any account
    pub told_along : (state : JournalState) (turns : Account) → Follows config start log state turns → AreToldPasts state.front state.ended
        → AreToldPasts (after_turns config start log state turns).front (after_turns config start log state turns).ended
    told_along state [] follows all = all
    told_along state (turn ∷ turns) follows all = told_along (after_turn config start log state turn) turns follows.1 (told_turn state turn follows.0 all)
