-- What was found at a take is no newer than what the list knows at any later turn.
use Rattle.std.proofs.Common.{◌≡◌, ◌≤◌, ℕ, Bool, true, false, List, [], ◌∷◌, ◌++◌, Option, Some, None, IfSome, is_some, refl, sym, ap, subst}
use Rattle.std.specs.Option.{option_map_or}
use Rattle.std.specs.Prelude.{if◌then◌else◌}
use Rattle.bucket_api.specs.BucketState.{BucketState}
use Rattle.bucket_api.specs.LogEvent.{LogEvent}
use Rattle.history_spec.specs.Account as account
use Rattle.history_spec.specs.Account.{Account, Item, Turn}
use Rattle.history_spec.specs.JournalState.{JournalState, OpenCall, after_turn, after_turns, at_front, first_journal, open_of, past_of, reached}
use Rattle.history_spec.specs.Pasts.{lifetime_of}
use Rattle.mount_model.specs.declared.config.Config.{Config}
use Rattle.mount_rules.specs.Dispatch.{plan, rules_of, view_in}
use Rattle.mount_rules.specs.Plans.{Plan, asked_by}
use Rattle.record_spec.proofs.KnownLaws.{NoneFalls-found, NoneFalls-refl, NoneFalls-trans, live_record_is}
use Rattle.record_spec.proofs.UseLaws.{KeepsUp-empty, NoneFalls-after}
use Rattle.record_spec.specs.Laws.{Act, MayHappen, NoneFalls}
use Rattle.record_spec.specs.Past.{KeepsUp, Past}
use Rattle.record_spec.specs.RecordList.{Key, RecordList, empty_list, known_to}
use Rattle.record_spec.specs.Steps.{found, live_record}
use Rattle.record_spec.specs.declared.records.Record.{Record}
use Rattle.thrift_spec.proofs.KeepingUp.{keeps_up_act, keeps_up_along, keeps_up_turn, past_with}
use Rattle.thrift_spec.specs.Laws.{FoundStaysKnown}
use Rattle.thrift_spec.specs.Records.{AllTold, AreTold, IsToldBy, act_at, found_in, list_after_items, list_after_turn, list_after_turns, list_by, plan_found, records_at}

module _ (config : Config) (start : BucketState) (log : List LogEvent) where
  pub found_rises : (now : ℕ) (keys : List Key) (asks : Plan) (list : RecordList) → NoneFalls list (found_in config now asks keys list)
  found_rises now [] asks list = NoneFalls-refl list
  found_rises now (key ∷ keys) asks list = by (is_some (asked_by (asks []))) (found_rises now keys next found_list)
    where
      next : Plan
      next = plan_found asks (live_record list key now (lifetime_of config key))

      found_list : RecordList
      found_list = found list key now (lifetime_of config key)

      by : (b : Bool) → NoneFalls found_list (found_in config now next keys found_list) → NoneFalls list (if b then found_in config now next keys found_list else list)
      by true later = NoneFalls-trans list found_list (found_in config now next keys found_list) (NoneFalls-found list key now (lifetime_of config key)) later
      by false later = NoneFalls-refl list

  module _ (clock : ℕ) where
    pub act_rises : (past : Past) (list : RecordList) (act : Option Act) → KeepsUp config.implicit_dirs past list → IfSome act (MayHappen list)
        → NoneFalls list (list_by config.implicit_dirs start log clock list act)
    act_rises past list None k may = NoneFalls-refl list
    act_rises past list (Some act) k may = NoneFalls-after config.implicit_dirs list act k.few may

    pub items_rise : (past : Past) (list : RecordList) (items : List Item) → KeepsUp config.implicit_dirs past list → AreTold config.implicit_dirs start log clock list items
        → NoneFalls list (list_after_items config.implicit_dirs start log clock list items)
    items_rise past list [] k told = NoneFalls-refl list
    items_rise past list (item ∷ items) k told =
        NoneFalls-trans list next (list_after_items config.implicit_dirs start log clock next items) (act_rises past list act k told.0)
        (items_rise (past_with past act) next items (keeps_up_act config.implicit_dirs start log clock past list act k told.0) told.1)
      where
        act : Option Act
        act = act_at config.implicit_dirs start log clock list item

        next : RecordList
        next = list_by config.implicit_dirs start log clock list act

  turn_rises : (state : JournalState) (list : RecordList) (turn : Turn) → KeepsUp config.implicit_dirs (past_of state.ended) list → IsToldBy config start log state list turn
      → NoneFalls list (list_after_turn config start log state list turn)
  turn_rises state list (account.take call front request) k told =
      found_rises state.clock ((rules_of request).keys (view_in state.mount request)) (plan (at_front config start log state.clock front) state.mount request) list
  turn_rises state list (account.done call front h items fill) k told = by (open_of state.opened call.lane) told
    where
      by : (found : Option OpenCall) → IfSome found (λ (o : OpenCall). AreTold config.implicit_dirs start log o.clock list items)
          → NoneFalls list (option_map_or (λ (o : OpenCall). list_after_items config.implicit_dirs start log o.clock list items) found list)
      by None told = NoneFalls-refl list
      by (Some o) told = items_rise o.clock (past_of state.ended) list items k told
  turn_rises state list (account.tick front seconds) k told = NoneFalls-refl list

  -- along turns that tell what the list made of what was seen, no key is known less far
  pub turns_rise : (state : JournalState) (list : RecordList) (turns : Account) → KeepsUp config.implicit_dirs (past_of state.ended) list → AllTold config start log state list turns
      → NoneFalls list (list_after_turns config start log state list turns)
  turns_rise state list [] k told = NoneFalls-refl list
  turns_rise state list (turn ∷ turns) k told =
      let next : RecordList = list_after_turn config start log state list turn in
      NoneFalls-trans list next (list_after_turns config start log (after_turn config start log state turn) next turns) (turn_rises state list turn k told.0)
      (turns_rise (after_turn config start log state turn) next turns (keeps_up_turn config start log state list turn k told.0) told.1)

  -- ---- an account and more turns of it
  list_append : (state : JournalState) (list : RecordList) (turns more : Account) → list_after_turns config start log state list (turns ++ more)
      ≡ list_after_turns config start log (after_turns config start log state turns) (list_after_turns config start log state list turns) more
  list_append state list [] more = refl
  list_append state list (turn ∷ turns) more = list_append (after_turn config start log state turn) (list_after_turn config start log state list turn) turns more

  told_append : (state : JournalState) (list : RecordList) (turns more : Account) → AllTold config start log state list (turns ++ more)
      → AllTold config start log state list turns × AllTold config start log (after_turns config start log state turns) (list_after_turns config start log state list turns) more
  told_append state list [] more told = (tt, told)
  told_append state list (turn ∷ turns) more told =
      let rest = told_append (after_turn config start log state turn) (list_after_turn config start log state list turn) turns more told.1 in ((told.0, rest.0), rest.1)

-- what is found in a list is what the list knows of its key
pub found_known : (list : RecordList) (key : Key) (now lifetime : ℕ) (r : Record) → live_record list key now lifetime ≡ Some r → known_to list key ≡ r.moment
found_known list key now lifetime r is = ap (λ f. option_map_or (λ (x : Record). x.moment) f list.low) (live_record_is list key now lifetime r is).0

pub found_stays_known : FoundStaysKnown
found_stays_known config start log turns more key now lifetime r told is =
    let parts = told_append config start log first_journal empty turns more told in
    let keeps = keeps_up_along config start log first_journal empty turns (KeepsUp-empty config.implicit_dirs config.record_capacity) parts.0 in
    let risen = turns_rise config start log (reached config start log turns) first more keeps parts.1 key in
    subst (λ list. r.moment ≤ known_to list key) (sym (list_append config start log first_journal empty turns more))
    (subst (λ n. n ≤ known_to (list_after_turns config start log (reached config start log turns) first more) key) (found_known first key now lifetime r is) risen)
  where
    empty : RecordList
    empty = empty_list config.record_capacity

    first : RecordList
    first = records_at config start log turns
