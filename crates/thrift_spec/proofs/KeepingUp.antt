-- The record list along an account keeps up with what the calls that are done saw, used and wrote.
use Rattle.std.proofs.Common.{◌≤◌, ℕ, Bool, true, false, List, [], ◌∷◌, ◌++◌, All, Contains, Option, Some, None, IfSome, is_some, refl, ◌⊎◌, inl, inr}
use Rattle.std.proofs.lemmas.List.Elements.{All-contains, All-contains_itself, All-weaker, Contains-append_cases, Contains-append_left, Contains-append_right}
use Rattle.std.specs.List.{cons_option}
use Rattle.std.specs.Option.{option_map_or}
use Rattle.std.specs.Prelude.{if◌then◌else◌, option_and_then, option_map}
use Rattle.bucket_api.specs.BucketState.{BucketState}
use Rattle.bucket_api.specs.LogEvent.{LogEvent}
use Rattle.history_spec.specs.Account as account
use Rattle.history_spec.specs.Account.{Account, Item, Turn, looked, made, moment_of, recalled}
use Rattle.history_spec.specs.JournalState.{JournalState, OpenCall, after_done, after_turn, after_turns, at_front, first_journal, open_of, past_of, reached}
use Rattle.history_spec.specs.Observing.{observed_at}
use Rattle.history_spec.specs.Pasts as pasts
use Rattle.history_spec.specs.Pasts.{joined, lifetime_of, past_by, shown_of}
use Rattle.mount_model.specs.Observing.{Observed}
use Rattle.mount_model.specs.declared.config.Config.{Config}
use Rattle.mount_rules.specs.Dispatch.{plan, rules_of, view_in}
use Rattle.mount_rules.specs.Plans.{Plan, asked_by}
use Rattle.record_spec.proofs.UseLaws.{IsLawful-live, KeepsUp-after, KeepsUp-empty, KeepsUp-found}
use Rattle.record_spec.specs.Laws.{Act, MayHappen, past_after, saw, wrote}
use Rattle.record_spec.specs.Past.{KeepsUp, Past}
use Rattle.record_spec.specs.RecordList.{Key, RecordList, empty_list, known_to}
use Rattle.record_spec.specs.Past.{Writes}
use Rattle.record_spec.specs.Steps.{found, live_record}
use Rattle.record_spec.specs.declared.records.Record.{Record}
use Rattle.record_spec.specs.declared.records.Shown.{Shown}
use Rattle.thrift_spec.specs.Laws.{RecordsServe}
use Rattle.thrift_spec.specs.Records.{AllTold, AreTold, IsToldBy, act_at, act_of, came_of, found_in, list_after_items, list_after_turn, list_after_turns, list_by, plan_found}

-- ---- pasts that tell the same
-- all of one list is in another
abbrev Within : {X : Type 0} → List X → List X → Type 0
Within {X} one other = (x : X) → Contains one x → Contains other x

all_within : {X : Type 0} (P : X → Type 0) (one other : List X) → Within one other → All P other → All P one
all_within P one other within all = All-weaker (Contains one) P (λ x among. All-contains P other x all (within x among)) one (All-contains_itself one)

Within-itself : {X : Type 0} (xs : List X) → Within xs xs
Within-itself xs x among = among

-- an element further behind
front : {X : Type 0} (y : X) (xs ys : List X) → Within (xs ++ y ∷ ys) (y ∷ xs ++ ys)
front y xs ys x among = by (Contains-append_cases xs (y ∷ ys) x among)
  where
    by : Contains xs x ⊎ Contains (y ∷ ys) x → Contains (y ∷ xs ++ ys) x
    by (inl first) = Contains-append_right (y ∷ []) (xs ++ ys) x (Contains-append_left xs ys x first)
    by (inr second) = last (Contains-append_cases (y ∷ []) ys x second)
      where
        last : Contains (y ∷ []) x ⊎ Contains ys x → Contains (y ∷ xs ++ ys) x
        last (inl it) = Contains-append_left (y ∷ []) (xs ++ ys) x it
        last (inr rest) = Contains-append_right (y ∷ []) (xs ++ ys) x (Contains-append_right xs ys x rest)

back : {X : Type 0} (y : X) (xs ys : List X) → Within (y ∷ xs ++ ys) (xs ++ y ∷ ys)
back y xs ys x among = by (Contains-append_cases (y ∷ []) (xs ++ ys) x among)
  where
    by : Contains (y ∷ []) x ⊎ Contains (xs ++ ys) x → Contains (xs ++ y ∷ ys) x
    by (inl it) = Contains-append_right xs (y ∷ ys) x (Contains-append_left (y ∷ []) ys x it)
    by (inr rest) = last (Contains-append_cases xs ys x rest)
      where
        last : Contains xs x ⊎ Contains ys x → Contains (xs ++ y ∷ ys) x
        last (inl first) = Contains-append_left xs (y ∷ ys) x first
        last (inr second) = Contains-append_right xs (y ∷ ys) x (Contains-append_right (y ∷ []) ys x second)

record TellsSame (one other : Past) : Type 0 where
  seen : Within one.seen other.seen
  also : Within other.seen one.seen
  used : Within other.used one.used
  written : Within other.written one.written

keeps_up_same : (implicit : Bool) (one other : Past) (list : RecordList) → TellsSame one other → KeepsUp implicit one list → KeepsUp implicit other list
keeps_up_same implicit one other list same k = record {
  shown = λ key r is. same.seen (key, r) (k.shown key r is);
  seen = all_within (λ (u : Key × Record). u.1.moment ≤ known_to list u.0) other.seen one.seen same.also k.seen;
  used = all_within (λ (u : Key × ℕ). u.1 ≤ known_to list u.0) other.used one.used same.used k.used;
  written = all_within (λ (w : Key × ℕ). (key : Key) → Writes implicit w.0 key → w.1 ≤ known_to list key) other.written one.written same.written k.written;
  few = k.few;
}

-- ---- the end of a call
abbrev pub past_with : Past → Option Act → Past
past_with past None = past
past_with past (Some act) = past_after past act

module _ (implicit : Bool) (start : BucketState) (log : List LogEvent) (clock : ℕ) where
  -- an item that is gone through first tells the same as one that stands before the others
  moved : (past : Past) (list : RecordList) (item : Item) (items : List Item) →
      TellsSame (joined (past_by start log clock items) (past_with past (act_at implicit start log clock list item))) (joined (past_by start log clock (item ∷ items)) past)
  moved past list item items = by item (observed_at start log (moment_of item))
    where
      rest : Past
      rest = past_by start log clock items

      firsts : Item → Option Observed → Past
      firsts i seen = record {
        seen = cons_option (option_and_then (pasts.saw clock i) seen) rest.seen;
        used = cons_option (option_and_then (pasts.used i) seen) rest.used;
        written = cons_option (option_and_then (pasts.wrote i) seen) rest.written;
      }

      none : TellsSame (joined rest past) (joined rest past)
      none = record { seen = Within-itself _; also = Within-itself _; used = Within-itself _; written = Within-itself _ }

      by_seen : (key : Key) (moment : ℕ) (kept : Bool) (shown : Option Shown) →
          TellsSame (joined rest (past_with past (option_map (λ (u : Key × Record). saw u.0 u.1 (came_of list u.0 u.1.moment kept)) (option_map (λ s. (key, record { moment = moment; tick = clock; shown = s })) shown))))
          (joined (record rest { seen = cons_option (option_map (λ s. (key, record { moment = moment; tick = clock; shown = s })) shown) rest.seen }) past)
      by_seen key moment kept None = none
      by_seen key moment kept (Some s) = record { seen = front _ rest.seen past.seen; also = back _ rest.seen past.seen; used = Within-itself _; written = Within-itself _ }

      by_written : (moment : ℕ) (name : Option Key) →
          TellsSame (joined rest (past_with past (option_map (λ (w : Key × ℕ). wrote w.0 w.1) (option_map (λ n. (n, moment)) name))))
          (joined (record rest { written = cons_option (option_map (λ n. (n, moment)) name) rest.written }) past)
      by_written moment None = none
      by_written moment (Some name) = record { seen = Within-itself _; also = Within-itself _; used = Within-itself _; written = back _ rest.written past.written }

      by : (i : Item) (seen : Option Observed) → TellsSame (joined rest (past_with past (option_and_then (act_of clock list i) seen))) (joined (firsts i seen) past)
      by (looked moment kept) None = none
      by (recalled moment) None = none
      by (made moment) None = none
      by (looked moment kept) (Some o) = by_seen (pasts.key_of o.op) moment kept (shown_of o.answer)
      by (recalled moment) (Some o) = record { seen = Within-itself _; also = Within-itself _; used = back _ rest.used past.used; written = Within-itself _ }
      by (made moment) (Some o) = by_written moment (pasts.written_by o.op)

  pub keeps_up_act : (past : Past) (list : RecordList) (act : Option Act) → KeepsUp implicit past list → IfSome act (MayHappen list)
      → KeepsUp implicit (past_with past act) (list_by implicit start log clock list act)
  keeps_up_act past list None k may = k
  keeps_up_act past list (Some act) k may = KeepsUp-after implicit past list act k may

  pub keeps_up_items : (past : Past) (list : RecordList) (items : List Item) → KeepsUp implicit past list → AreTold implicit start log clock list items
      → KeepsUp implicit (joined (past_by start log clock items) past) (list_after_items implicit start log clock list items)
  keeps_up_items past list [] k told = k
  keeps_up_items past list (item ∷ items) k told =
      keeps_up_same implicit (joined (past_by start log clock items) (past_with past (act_at implicit start log clock list item))) (joined (past_by start log clock (item ∷ items)) past)
      (list_after_items implicit start log clock list (item ∷ items)) (moved past list item items)
      (keeps_up_items (past_with past (act_at implicit start log clock list item)) (list_by implicit start log clock list (act_at implicit start log clock list item)) items
      (keeps_up_act past list (act_at implicit start log clock list item) k told.0) told.1)

-- ---- along an account
module _ (config : Config) (start : BucketState) (log : List LogEvent) where
  pub keeps_up_found : (past : Past) (now : ℕ) (keys : List Key) (asks : Plan) (list : RecordList) → KeepsUp config.implicit_dirs past list
      → KeepsUp config.implicit_dirs past (found_in config now asks keys list)
  keeps_up_found past now [] asks list k = k
  keeps_up_found past now (key ∷ keys) asks list k = by (is_some (asked_by (asks []))) (keeps_up_found past now keys next found_list (KeepsUp-found config.implicit_dirs past list key now (lifetime_of config key) k))
    where
      next : Plan
      next = plan_found asks (live_record list key now (lifetime_of config key))

      found_list : RecordList
      found_list = found list key now (lifetime_of config key)

      by : (b : Bool) → KeepsUp config.implicit_dirs past (found_in config now next keys found_list)
          → KeepsUp config.implicit_dirs past (if b then found_in config now next keys found_list else list)
      by true later = later
      by false later = k

  pub keeps_up_turn : (state : JournalState) (list : RecordList) (turn : Turn) → KeepsUp config.implicit_dirs (past_of state.ended) list → IsToldBy config start log state list turn
      → KeepsUp config.implicit_dirs (past_of (after_turn config start log state turn).ended) (list_after_turn config start log state list turn)
  keeps_up_turn state list (account.take call front request) k told =
      keeps_up_found (past_of state.ended) state.clock ((rules_of request).keys (view_in state.mount request)) (plan (at_front config start log state.clock front) state.mount request) list k
  keeps_up_turn state list (account.done call front h items fill) k told = by (open_of state.opened call.lane) told
    where
      by : (found : Option OpenCall) → IfSome found (λ (o : OpenCall). AreTold config.implicit_dirs start log o.clock list items)
          → KeepsUp config.implicit_dirs (past_of (option_map_or (after_done start log state front h items) found state).ended)
          (option_map_or (λ (o : OpenCall). list_after_items config.implicit_dirs start log o.clock list items) found list)
      by None told = k
      by (Some o) told = keeps_up_items config.implicit_dirs start log o.clock (past_of state.ended) list items k told
  keeps_up_turn state list (account.tick front seconds) k told = k

  pub keeps_up_along : (state : JournalState) (list : RecordList) (turns : Account) → KeepsUp config.implicit_dirs (past_of state.ended) list → AllTold config start log state list turns
      → KeepsUp config.implicit_dirs (past_of (after_turns config start log state turns).ended) (list_after_turns config start log state list turns)
  keeps_up_along state list [] k told = k
  keeps_up_along state list (turn ∷ turns) k told =
      keeps_up_along (after_turn config start log state turn) (list_after_turn config start log state list turn) turns (keeps_up_turn state list turn k told.0) told.1

pub records_serve : RecordsServe
records_serve config start log turns call front request op r told asked lives = record {
  asked = asked;
  r = r;
  is = refl;
  lawful = IsLawful-live config.implicit_dirs (past_of (reached config start log turns).ended) (list_after_turns config start log first_journal (empty_list config.record_capacity) turns)
      (pasts.key_of op) (reached config start log turns).clock (lifetime_of config (pasts.key_of op)) r
      (keeps_up_along config start log first_journal (empty_list config.record_capacity) turns (KeepsUp-empty config.implicit_dirs config.record_capacity) told) lives;
}
