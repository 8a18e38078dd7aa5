-- Two logs that are the same up to a front leave a mount that has seen no more the same records and files, and the same thrift.
use Rattle.std.proofs.Common.{◌≡◌, ℕ, ◌≤◌, Bool, List, [], ◌∷◌, ◌++◌, take, length, Option, Some, IfSome, refl, sym, ap, subst, ◌∙◌, arith}
use Rattle.std.proofs.lemmas.List.{take-append-le}
use Rattle.std.specs.List.{AllByRecursion}
use Rattle.std.specs.Option.{option_map_or}
use Rattle.std.specs.Prelude.{option_and_then}
use Rattle.bucket_api.specs.BucketState.{BucketState}
use Rattle.bucket_api.specs.LogEvent.{LogEvent}
use Rattle.history_spec.proofs.Agreeing.{at_same, observed_same, seen_same}
use Rattle.history_spec.proofs.Following.{front_after, fronts_rise, stays_same, walk_within}
use Rattle.history_spec.specs.Account as account
use Rattle.history_spec.specs.Account.{Account, Item, Turn, front_of, moment_of}
use Rattle.history_spec.specs.Fits.{Follows, IsAccount, IsNext, plan_of}
use Rattle.history_spec.specs.JournalState.{JournalState, OpenCall, after_turn, after_turns, first_journal}
use Rattle.history_spec.specs.Observing.{seen_by}
use Rattle.mount_model.specs.Observing.{Observed}
use Rattle.mount_model.specs.declared.config.Config.{Config}
use Rattle.mount_model.specs.declared.journal.Fill.{Fill}
use Rattle.mount_model.specs.declared.journal.How.{How}
use Rattle.mount_rules.specs.Dispatch.{plan, rules_of, view_in, wants}
use Rattle.mount_rules.specs.Rules.{AtTake}
use Rattle.record_spec.specs.Laws.{MayHappen}
use Rattle.record_spec.specs.RecordList.{RecordList}
use Rattle.thrift_spec.proofs.InParts.{records_after_turn}
use Rattle.thrift_spec.specs.Files.{files_after_turn, files_filled, wholes_read}
use Rattle.thrift_spec.specs.Records.{AllTold, AreTold, IsToldBy, act_at, act_of, found_in, list_after_items, list_by}
use Rattle.thrift_spec.specs.Thrift.{AllThrifty, EndsThrifty, IsFillOf, IsThrifty, IsThriftyTurn, Kept, ReadsAre, ThriftyFrom, fit, kept_after_turn, kept_after_turns, none_kept, reads_of, with_lane}
use Rattle.thrift_spec.specs.OneCall.{KeptOver}

-- the moments of these items are seen by this front
abbrev pub AreWithin : ℕ → List Item → Type 0
AreWithin upto items = AllByRecursion (λ item. moment_of item ≤ upto) items

module _ (start : BucketState) (one other : List LogEvent) (upto : ℕ) (same : take upto one ≡ take upto other) where
  -- ---- the items of a call
  module _ (implicit : Bool) (clock : ℕ) where
    pub act_same : (list : RecordList) (item : Item) → moment_of item ≤ upto → act_at implicit start one clock list item ≡ act_at implicit start other clock list item
    act_same list item within = ap (option_and_then (act_of clock list item)) (observed_same start one other upto same (moment_of item) within)

    -- the list that an act leaves is the same over each log
    pub list_after_items_same : (list : RecordList) (items : List Item) → AreWithin upto items
        → list_after_items implicit start one clock list items ≡ list_after_items implicit start other clock list items
    list_after_items_same list [] within = refl
    list_after_items_same list (item ∷ items) within =
        ap (λ act. list_after_items implicit start one clock (list_by implicit start one clock list act) items) (act_same list item within.0)
        ∙ list_after_items_same (list_by implicit start other clock list (act_at implicit start other clock list item)) items within.1

    pub told_items_same : (list : RecordList) (items : List Item) → AreWithin upto items → AreTold implicit start one clock list items → AreTold implicit start other clock list items
    told_items_same list [] within told = tt
    told_items_same list (item ∷ items) within told = (
      subst (λ act. IfSome act (MayHappen list)) (act_same list item within.0) told.0,
      told_items_same (list_by implicit start other clock list (act_at implicit start other clock list item)) items within.1
          (subst (λ act. AreTold implicit start one clock (list_by implicit start one clock list act) items) (act_same list item within.0) told.1),
    )

  all_thrifty_same : (o : OpenCall) (found : RecordList) (items : List Item) → AreWithin upto items → AllThrifty start one o found items → AllThrifty start other o found items
  all_thrifty_same o found [] within thrifty = tt
  all_thrifty_same o found (item ∷ items) within thrifty = (
    subst (λ seen. IfSome seen (IsThrifty start one o found item)) (observed_same start one other upto same (moment_of item) within.0) thrifty.0,
    all_thrifty_same o found items within.1 thrifty.1,
  )

module _ (config : Config) (start : BucketState) (one other : List LogEvent) (upto : ℕ) (same : take upto one ≡ take upto other) where
  ends_thrifty_same : (kept : Kept) (o : OpenCall) (h : How) (items : List Item) (fill : Fill) → AreWithin upto items
      → EndsThrifty config start one kept o h items fill → EndsThrifty config start other kept o h items fill
  ends_thrifty_same kept o h items fill within ends = record {
    looks = all_thrifty_same start one other upto same o (kept.found o.call.lane) items within ends.looks;
    reads = subst (ReadsAre h (kept.reads o.call.lane)) (seen_same start one other upto same items within) ends.reads;
    fills = subst (λ (seen : List Observed). IsFillOf h (fit config.cache_blocks (wholes_read o.taken.at.contents seen)) fill) (seen_same start one other upto same items within) ends.fills;
  }

  -- ---- a turn

  module _ (state : JournalState) (kept : Kept) where
    -- what a take leaves, by what it knows of contents
    abbrev taken_with : Turn → AtTake → Kept
    taken_with (account.take call front request) at = record {
      records = found_in config state.clock (plan at state.mount request) ((rules_of request).keys (view_in state.mount request)) kept.records;
      files = files_after_turn config start one state kept.files (account.take call front request);
      found = with_lane kept.found call.lane kept.records;
      reads = with_lane kept.reads call.lane (reads_of config.cache_blocks kept.files at.contents (wants config state.mount request));
    }
    taken_with turn at = kept

    -- what the end of a call leaves
    abbrev ended_with : List LogEvent → List Item → Fill → Option OpenCall → Kept
    ended_with log items fill found = record kept {
      records = option_map_or (λ (o : OpenCall). list_after_items config.implicit_dirs start log o.clock kept.records items) found kept.records;
      files = option_map_or (λ (o : OpenCall). files_filled config.cache_blocks fill kept.files (wholes_read o.taken.at.contents (seen_by start log items))) found kept.files;
    }

    ended_same : (o : OpenCall) (items : List Item) (fill : Fill) → AreWithin upto items → ended_with one items fill (Some o) ≡ ended_with other items fill (Some o)
    ended_same o items fill within =
        ap (λ (list : RecordList). record (ended_with one items fill (Some o)) { records = list }) (list_after_items_same start one other upto same config.implicit_dirs o.clock kept.records items within)
        ∙ ap (λ (seen : List Observed). record (ended_with other items fill (Some o)) { files = files_filled config.cache_blocks fill kept.files (wholes_read o.taken.at.contents seen) })
        (seen_same start one other upto same items within)

    pub kept_turn_same : (turn : Turn) → front_of turn ≤ upto → IsNext start one state turn → kept_after_turn config start one state kept turn ≡ kept_after_turn config start other state kept turn
    kept_turn_same (account.take call front request) within next =
        ap (taken_with (account.take call front request)) (at_same start one other upto same config state.clock front within)
    kept_turn_same (account.done call front h items fill) within next =
        ap (ended_with one items fill) next.1
        ∙ (ended_same next.0 items fill (walk_within start one other upto same (plan_of state next.0) next.0 front items within next.3.walk)
        ∙ sym (ap (ended_with other items fill) next.1))
    kept_turn_same (account.tick front seconds) within next = refl

    told_turn_same : (turn : Turn) → front_of turn ≤ upto → IsNext start one state turn → IsToldBy config start one state kept.records turn → IsToldBy config start other state kept.records turn
    told_turn_same (account.take call front request) within next told = tt
    told_turn_same (account.done call front h items fill) within next told =
        subst (λ found. IfSome found (λ (o : OpenCall). AreTold config.implicit_dirs start other o.clock kept.records items)) (sym next.1)
        (told_items_same start one other upto same config.implicit_dirs next.0.clock kept.records items
        (walk_within start one other upto same (plan_of state next.0) next.0 front items within next.3.walk)
        (subst (λ found. IfSome found (λ (o : OpenCall). AreTold config.implicit_dirs start one o.clock kept.records items)) next.1 told))
    told_turn_same (account.tick front seconds) within next told = tt

    thrifty_turn_same : (turn : Turn) → front_of turn ≤ upto → IsNext start one state turn → IsThriftyTurn config start one state kept turn → IsThriftyTurn config start other state kept turn
    thrifty_turn_same (account.take call front request) within next thrifty = tt
    thrifty_turn_same (account.done call front h items fill) within next thrifty =
        subst (λ found. IfSome found (λ (o : OpenCall). EndsThrifty config start other kept o h items fill)) (sym next.1)
        (ends_thrifty_same kept next.0 h items fill
        (walk_within start one other upto same (plan_of state next.0) next.0 front items within next.3.walk)
        (subst (λ found. IfSome found (λ (o : OpenCall). EndsThrifty config start one kept o h items fill)) next.1 thrifty))
    thrifty_turn_same (account.tick front seconds) within next thrifty = tt

  -- ---- along an account
  pub record KeptStays (state : JournalState) (kept : Kept) (turns : Account) : Type 0 where
    pub thrifty : ThriftyFrom config start one state kept turns → ThriftyFrom config start other state kept turns
    pub told : AllTold config start one state kept.records turns → AllTold config start other state kept.records turns
    pub keeps : kept_after_turns config start other state kept turns ≡ kept_after_turns config start one state kept turns

  pub kept_stays : (state : JournalState) (kept : Kept) (turns : Account) → Follows config start one state turns → (after_turns config start one state turns).front ≤ upto
      → KeptStays state kept turns
  kept_stays state kept [] follows within = record { thrifty = λ t. tt; told = λ t. tt; keeps = refl }
  kept_stays state kept (turn ∷ turns) follows within =
      with_first (kept_stays (after_turn config start one state turn) (kept_after_turn config start one state kept turn) turns follows.1 within)
    where
      here : front_of turn ≤ upto
      here =
          let is : (after_turn config start one state turn).front ≡ front_of turn = front_after config start one state turn follows.0 in
          let later : (after_turn config start one state turn).front ≤ (after_turns config start one (after_turn config start one state turn) turns).front =
          fronts_rise config start one (after_turn config start one state turn) turns follows.1 in
          omega arith

      state_is : after_turn config start one state turn ≡ after_turn config start other state turn
      state_is = sym (stays_same config start one other upto same state (turn ∷ []) (follows.0, tt)
          (let is : (after_turn config start one state turn).front ≡ front_of turn = front_after config start one state turn follows.0 in omega (arith, here))).reaches

      kept_is : kept_after_turn config start one state kept turn ≡ kept_after_turn config start other state kept turn
      kept_is = kept_turn_same state kept turn here follows.0.next

      with_first : KeptStays (after_turn config start one state turn) (kept_after_turn config start one state kept turn) turns → KeptStays state kept (turn ∷ turns)
      with_first later = record {
        thrifty = λ t. (
          thrifty_turn_same state kept turn here follows.0.next t.0,
          told_turn_same state kept turn here follows.0.next t.1,
          subst (λ k. ThriftyFrom config start other (after_turn config start other state turn) k turns) kept_is
              (subst (λ s. ThriftyFrom config start other s (kept_after_turn config start one state kept turn) turns) state_is (later.thrifty t.2)),
        );
        told = λ t. (
          told_turn_same state kept turn here follows.0.next t.0,
          subst (λ list. AllTold config start other (after_turn config start other state turn) list turns)
              (ap (λ (k : Kept). k.records) kept_is ∙ records_after_turn config start other state kept turn)
              (subst (λ s. AllTold config start other s (kept_after_turn config start one state kept turn).records turns) state_is
              (later.told (subst (λ list. AllTold config start one (after_turn config start one state turn) list turns) (sym (records_after_turn config start one state kept turn)) t.1))),
        );
        keeps = ap (λ s. kept_after_turns config start other s (kept_after_turn config start other state kept turn) turns) (sym state_is)
            ∙ (ap (λ k. kept_after_turns config start other (after_turn config start one state turn) k turns) (sym kept_is)
            ∙ later.keeps);
      }

pub kept_over_longer : (config : Config) (start : BucketState) (log more : List LogEvent) (turns : Account) → IsAccount config start log turns
    → KeptOver config start log (log ++ more) turns
kept_over_longer config start log more turns is =
    let stays = kept_stays config start log (log ++ more) (length log) (sym (take-append-le (length log) log more (omega arith))) first_journal (none_kept config) turns is.follows is.within in
    record { thrifty = stays.thrifty; told = stays.told; keeps = stays.keeps }
