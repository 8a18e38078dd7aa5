-- One call more of a mount that has none under way: what is kept once it is taken, and once it is done; and when its end is
-- thrifty.
use Rattle.std.proofs.Common.{◌≡◌, ℕ, ◌≤◌, Bool, cond, List, [], ◌∷◌, ◌++◌, length, Option, Some, None, IfSome, refl, sym, ap, subst, ◌∙◌, arith}
use Rattle.std.proofs.lemmas.List.{take-append-le}
use Rattle.std.proofs.lemmas.List.Elements.{All-contains}
use Rattle.std.specs.Option.{option_map_or}
use Rattle.std.specs.Prelude.{option_and_then, option_map}
use Rattle.bucket_api.specs.BucketState.{BucketState}
use Rattle.bucket_api.specs.LogEvent.{LogEvent}
use Rattle.history_spec.proofs.Agreeing.{at_same}
use Rattle.history_spec.proofs.JournalLaws.{log_grows}
use Rattle.history_spec.proofs.Walking.{Walked}
use Rattle.history_spec.proofs.Lanes.{open_of-first, same_lane}
use Rattle.history_spec.specs.Account.{Account, Item, looked, made, moment_of, recalled}
use Rattle.history_spec.specs.Fits.{IsAccount, MayTell}
use Rattle.history_spec.specs.JournalState.{JournalState, OpenCall, after_turn, at_front, first_journal, open_of, past_of, reached, taken_by, with_taken}
use Rattle.history_spec.specs.Laws.{IsTaken, StaysOver, done_of, take_of}
use Rattle.history_spec.specs.Observing.{observed_at, seen_by}
use Rattle.history_spec.specs.Pasts.{key_of, lifetime_of, written_by}
use Rattle.mount_model.specs.Observing.{Observed}
use Rattle.mount_model.specs.declared.config.Config.{Config}
use Rattle.mount_model.specs.declared.journal.Fill.{Fill}
use Rattle.mount_model.specs.declared.journal.How.{How}
use Rattle.mount_rules.specs.Dispatch.{plan, rules_of, view_in, wants}
use Rattle.mount_rules.specs.Overlap.{opened_at}
use Rattle.mount_rules.specs.Plans.{Plan, plan_after}
use Rattle.mount_rules.specs.Rules.{AtTake}
use Rattle.record_spec.proofs.KnownLaws.{NoneFalls-trans}
use Rattle.record_spec.proofs.UseLaws.{KeepsUp-empty}
use Rattle.record_spec.specs.Laws as laws
use Rattle.record_spec.specs.Laws.{Act, MayHappen, NoneFalls}
use Rattle.record_spec.specs.Past.{KeepsUp, Past}
use Rattle.record_spec.specs.RecordList.{Key, RecordList, empty_list, known_to}
use Rattle.record_spec.specs.declared.records.Record.{Record}
use Rattle.thrift_spec.proofs.InParts.{AllTold-append, IsThriftyAccount-append, kept_at-append, records_after_turn, records_of_kept, thrifty_is_told}
use Rattle.thrift_spec.proofs.KeepingUp.{keeps_up_act, keeps_up_along, keeps_up_found, past_with}
use Rattle.thrift_spec.proofs.Rising.{act_rises, found_known, found_rises}
use Rattle.thrift_spec.proofs.SameUpTo.{kept_over_longer}
use Rattle.thrift_spec.specs.Files.{files_filled, wholes_read}
use Rattle.thrift_spec.specs.Records.{AllTold, AreTold, RecordsAreTold, act_at, act_of, found_in, list_after_items, list_by, records_at}
use Rattle.thrift_spec.specs.Thrift.{AllThrifty, EndsThrifty, IsThrifty, IsThriftyAccount, Kept, ReadsAre, ThriftyFrom, kept_after_turn, kept_after_turns, kept_at, reads_of, with_lane}
use Rattle.thrift_spec.specs.OneCall.{AllKnown, EndsWell, IsKnown, IsToldOwn, KeepsCall, KeptOver, ListsCall, OwnAreTold, files_taken, kept_done, kept_taken, reads_taken, records_taken}

module _ (config : Config) (start : BucketState) (log : List LogEvent) (o : OpenCall) (found : RecordList) where
  abbrev next_list : RecordList → Item → RecordList
  next_list list item = list_by config.implicit_dirs start log o.clock list (act_at config.implicit_dirs start log o.clock list item)

  -- what is known of a key stays known
  use_told : (list : RecordList) (moment : ℕ) → NoneFalls found list → IfSome (observed_at start log moment) (IsKnown found (recalled moment))
      → IfSome (act_at config.implicit_dirs start log o.clock list (recalled moment)) (MayHappen list)
  use_told list moment rises known = by (observed_at start log moment) known
    where
      by : (seen : Option Observed) → IfSome seen (IsKnown found (recalled moment)) → IfSome (option_and_then (λ (s : Observed). Some (laws.used (key_of s.op) moment)) seen) (MayHappen list)
      by None known = tt
      by (Some seen) known = let up : known_to found (key_of seen.op) ≤ known_to list (key_of seen.op) = rises (key_of seen.op) in omega (arith, known)

  item_told : (list : RecordList) (item : Item) → NoneFalls found list → IfSome (observed_at start log (moment_of item)) (IsKnown found item)
      → IsToldOwn config.implicit_dirs start log o.clock list item → IfSome (act_at config.implicit_dirs start log o.clock list item) (MayHappen list)
  item_told list (looked moment kept) rises thrifty told = told
  item_told list (recalled moment) rises thrifty told = use_told list moment rises thrifty
  item_told list (made moment) rises thrifty told = any_write (observed_at start log moment)
    where
      any_write : (seen : Option Observed) → IfSome (option_and_then (act_of o.clock list (made moment)) seen) (MayHappen list)
      any_write None = tt
      any_write (Some s) = by (written_by s.op)
        where
          by : (name : Option Key) → IfSome (option_map (λ (w : Key × ℕ). laws.wrote w.0 w.1) (option_map (λ n. (n, moment)) name)) (MayHappen list)
          by None = tt
          by (Some name) = tt

  -- What a call used was found at its take, and its own looks are told by their flags: so its end tells all.
  pub told_by_own : (past : Past) (list : RecordList) (items : List Item) → KeepsUp config.implicit_dirs past list → NoneFalls found list → AllKnown start log found items
      → OwnAreTold config.implicit_dirs start log o.clock list items → AreTold config.implicit_dirs start log o.clock list items
  told_by_own past list [] keeps rises thrifty told = tt
  told_by_own past list (item ∷ items) keeps rises thrifty told = (
    here,
    told_by_own (past_with past act) (next_list list item) items (keeps_up_act config.implicit_dirs start log o.clock past list act keeps here)
        (NoneFalls-trans found list (next_list list item) rises (act_rises config start log o.clock past list act keeps here)) thrifty.1 told.1,
  )
    where
      act : Option Act
      act = act_at config.implicit_dirs start log o.clock list item

      here : IfSome (act_at config.implicit_dirs start log o.clock list item) (MayHappen list)
      here = item_told list item rises thrifty.0 told.0

-- what a thrifty end used was found, so it was known
uses_known : (start : BucketState) (log : List LogEvent) (o : OpenCall) (list : RecordList) (items : List Item) → AllThrifty start log o list items → AllKnown start log list items
uses_known start log o list [] thrifty = tt
uses_known start log o list (item ∷ items) thrifty = (by item (observed_at start log (moment_of item)) thrifty.0, uses_known start log o list items thrifty.1)
  where
    by : (i : Item) (seen : Option Observed) → IfSome seen (IsThrifty start log o list i) → IfSome seen (IsKnown list i)
    by i None t = tt
    by (looked moment kept) (Some s) t = tt
    by (recalled moment) (Some s) t =
        let known : known_to list (key_of s.op) ≡ t.0.moment = found_known list (key_of s.op) o.clock (lifetime_of o.taken.at.config (key_of s.op)) t.0 t.1 in
        let its : t.0.moment ≡ moment = t.2 in
        omega arith
    by (made moment) (Some s) t = tt

-- What a record showed that may serve was seen by a call before the take: so it is known, where the list keeps up with those.
pub walk_known : (start : BucketState) (log : List LogEvent) (o : OpenCall) (implicit : Bool) (list : RecordList) (plan : Plan) (items : List Item)
    → KeepsUp implicit (past_of o.before) list → Walked start log o plan items → AllKnown start log list items
walk_known start log o implicit list plan [] keeps walked = tt
walk_known start log o implicit list plan (item ∷ items) keeps walked = (
  subst (λ seen. IfSome seen (IsKnown list item)) (sym walked.1) (by item walked.3),
  walk_known start log o implicit list (plan_after plan walked.0.answer) items keeps walked.4,
)
  where
    by : (i : Item) → MayTell o walked.0.op i → IsKnown list i walked.0
    by (looked moment kept) may = tt
    by (recalled moment) may =
        let seen : may.1.r.moment ≤ known_to list (key_of walked.0.op) =
        All-contains (λ (u : Key × Record). u.1.moment ≤ known_to list u.0) (past_of o.before).seen (key_of walked.0.op, may.1.r) keeps.seen may.1.lawful.shown in
        subst (λ n. n ≤ known_to list (key_of walked.0.op)) may.1.is seen
    by (made moment) may = tt

module _ (config : Config) (start : BucketState) (log : List LogEvent) (state : JournalState) (o : OpenCall) (taken : IsTaken config start log state o) where
  clock_is : o.clock ≡ state.clock
  clock_is = ap (λ (x : OpenCall). x.clock) taken.so

  front_is : o.front ≡ length log
  front_is = ap (λ (x : OpenCall). x.front) taken.so

  -- a longer log knows the same at the take
  pub at_is : (more : List LogEvent) → at_front config start (log ++ more) state.clock o.front ≡ o.taken.at
  at_is more =
      ap (at_front config start (log ++ more) state.clock) front_is
      ∙ (sym (at_same start log (log ++ more) (length log) (sym (take-append-le (length log) log more (omega arith))) config state.clock (length log) (omega arith))
      ∙ sym (ap (λ (x : OpenCall). x.taken.at) taken.so))

  taken_with : Kept → AtTake → ℕ → Kept
  taken_with kept at clock = record {
    records = found_in config clock (plan at state.mount o.taken.request) ((rules_of o.taken.request).keys (view_in state.mount o.taken.request)) kept.records;
    files = files_taken config state kept.files o;
    found = with_lane kept.found o.call.lane kept.records;
    reads = with_lane kept.reads o.call.lane (reads_of config.cache_blocks kept.files at.contents (wants config state.mount o.taken.request));
  }

  pub taken_keeps : (kept : Kept) (more : List LogEvent) → kept_after_turn config start (log ++ more) state kept (take_of o) ≡ kept_taken config state kept o
  unfolding taken_with
  taken_keeps kept more = ap (λ at. taken_with kept at state.clock) (at_is more) ∙ ap (taken_with kept o.taken.at) (sym clock_is)

  -- the take leaves the call under way, over a longer log too
  pub taken_leaves : (more : List LogEvent) → after_turn config start (log ++ more) state (take_of o) ≡ with_taken state o
  taken_leaves more = ap (with_taken state)
      (ap (λ at. taken_by state o.call o.front (opened_at at state.mount o.taken.request)) (at_is more)
      ∙ (ap (λ at. taken_by state o.call o.front (opened_at at state.mount o.taken.request)) (ap (λ (x : OpenCall). x.taken.at) taken.so)
      ∙ (ap (λ n. taken_by state o.call n (opened_at (at_front config start log state.clock (length log)) state.mount o.taken.request)) front_is
      ∙ sym taken.so)))

-- what a lane has that a call was taken in
lane_has : {X : Type 0} (has : ℕ → X) (lane : ℕ) (x : X) → with_lane has lane x lane ≡ x
lane_has has lane x = ap (λ same. cond same x (has lane)) (same_lane lane lane refl)

module _ (config : Config) (start : BucketState) (log : List LogEvent) (state : JournalState) (o : OpenCall) (front : ℕ) (h : How) (items : List Item) (fill : Fill) where
  is_open : open_of (with_taken state o).opened o.call.lane ≡ Some o
  is_open = open_of-first o state.opened o.call.lane refl

  pub done_keeps : (kept : Kept) → kept_after_turn config start log (with_taken state o) kept (done_of o front h items fill) ≡ kept_done config start log kept o items fill
  done_keeps kept = ap (λ (found : Option OpenCall). record kept {
    records = option_map_or (λ (x : OpenCall). list_after_items config.implicit_dirs start log x.clock kept.records items) found kept.records;
    files = option_map_or (λ (x : OpenCall). files_filled config.cache_blocks fill kept.files (wholes_read x.taken.at.contents (seen_by start log items))) found kept.files;
  }) is_open

  -- the end of the call, by what was kept before its take
  ends_thrifty : (kept : Kept) → EndsWell config start log state kept o h items fill → EndsThrifty config start log (kept_taken config state kept o) o h items fill
  ends_thrifty kept well = record {
    looks = subst (λ list. AllThrifty start log o list items) (sym (lane_has kept.found o.call.lane kept.records)) well.looks;
    reads = subst (λ reads. ReadsAre h reads (seen_by start log items)) (sym (lane_has kept.reads o.call.lane (reads_taken config state kept.files o))) well.reads;
    fills = well.fills;
  }

  pub ends_told : (list : RecordList) (past : Past) → KeepsUp config.implicit_dirs past list → AllKnown start log list items
      → OwnAreTold config.implicit_dirs start log o.clock (records_taken config state list o) items → AreTold config.implicit_dirs start log o.clock (records_taken config state list o) items
  ends_told list past keeps uses told =
      told_by_own config start log o list past (records_taken config state list o) items
      (keeps_up_found config start log past o.clock keys asks list keeps) (found_rises config start log o.clock keys asks list) uses told
    where
      keys : List Key
      keys = (rules_of o.taken.request).keys (view_in state.mount o.taken.request)

      asks : Plan
      asks = plan o.taken.at state.mount o.taken.request

  pub thrifty_end : (kept : Kept) (past : Past) → KeepsUp config.implicit_dirs past kept.records → EndsWell config start log state kept o h items fill
      → ThriftyFrom config start log (with_taken state o) (kept_taken config state kept o) (done_of o front h items fill ∷ [])
  thrifty_end kept past keeps well = (
    subst (λ found. IfSome found (λ (x : OpenCall). EndsThrifty config start log (kept_taken config state kept o) x h items fill)) (sym is_open) (ends_thrifty kept well),
    subst (λ found. IfSome found (λ (x : OpenCall). AreTold config.implicit_dirs start log x.clock (records_taken config state kept.records o) items)) (sym is_open) (ends_told kept.records past keeps (uses_known start log o kept.records items well.looks) well.told),
    tt,
  )

-- ---- added to an account
-- what an account keeps up with, that tells all
pub keeps_up_at : (config : Config) (start : BucketState) (log : List LogEvent) (turns : Account) → RecordsAreTold config start log turns
    → KeepsUp config.implicit_dirs (past_of (reached config start log turns).ended) (records_at config start log turns)
keeps_up_at config start log turns told =
    keeps_up_along config start log first_journal (empty_list config.record_capacity) turns (KeepsUp-empty config.implicit_dirs config.record_capacity) told

module _ (config : Config) (start : BucketState) (log more : List LogEvent) (turns : Account) (o : OpenCall) (h : How) (items : List Item) (fill : Fill)
    (is : IsAccount config start log turns) (taken : IsTaken config start log (reached config start log turns) o) where
  abbrev whole : List LogEvent
  whole = log ++ more

  abbrev before : JournalState
  before = reached config start log turns

  abbrev kept : Kept
  kept = kept_at config start log turns

  abbrev both : Account
  both = take_of o ∷ done_of o (length (log ++ more)) h items fill ∷ []

  grown : StaysOver config start log (log ++ more) turns
  grown = log_grows config start log more turns is

  over : KeptOver config start log (log ++ more) turns
  over = kept_over_longer config start log more turns is

  keeps_both : kept_after_turns config start whole before kept both ≡ kept_done config start whole (kept_taken config before kept o) o items fill
  keeps_both =
      ap (λ k. kept_after_turn config start whole (after_turn config start whole before (take_of o)) k (done_of o (length whole) h items fill)) (taken_keeps config start log before o taken kept more)
      ∙ (ap (λ s. kept_after_turn config start whole s (kept_taken config before kept o) (done_of o (length whole) h items fill)) (taken_leaves config start log before o taken more)
      ∙ done_keeps config start whole before o (length whole) h items fill (kept_taken config before kept o))

  thrifty_both : KeepsUp config.implicit_dirs (past_of before.ended) kept.records → EndsWell config start whole before kept o h items fill → ThriftyFrom config start whole before kept both
  thrifty_both keeps well = (
    tt,
    tt,
    subst (λ k. ThriftyFrom config start whole (after_turn config start whole before (take_of o)) k (done_of o (length whole) h items fill ∷ [])) (sym (taken_keeps config start log before o taken kept more))
        (subst (λ s. ThriftyFrom config start whole s (kept_taken config before kept o) (done_of o (length whole) h items fill ∷ [])) (sym (taken_leaves config start log before o taken more))
        (thrifty_end config start whole before o (length whole) h items fill kept (past_of before.ended) keeps well)),
  )

  keeps_up : IsThriftyAccount config start log turns → KeepsUp config.implicit_dirs (past_of before.ended) kept.records
  keeps_up thrifty = subst (KeepsUp config.implicit_dirs (past_of before.ended)) (sym (records_of_kept config start log turns))
      (keeps_up_at config start log turns (thrifty_is_told config start log turns thrifty))

  pub keeps_call : KeepsCall config start log more turns o h items fill
  keeps_call = record {
    keeps = kept_at-append config start whole turns both
        ∙ (ap (λ s. kept_after_turns config start whole s (kept_at config start whole turns) both) grown.reaches
        ∙ (ap (λ k. kept_after_turns config start whole before k both) over.keeps
        ∙ keeps_both));
    thrifty = λ thrifty well. IsThriftyAccount-append config start whole turns both (over.thrifty thrifty)
        (subst (λ k. ThriftyFrom config start whole (reached config start whole turns) k both) (sym over.keeps)
        (subst (λ s. ThriftyFrom config start whole s kept both) (sym grown.reaches)
        (thrifty_both (keeps_up thrifty) well)));
  }

  -- ---- the record list alone
  abbrev list_before : RecordList
  list_before = records_at config start log turns

  kept_is : kept.records ≡ records_at config start log turns
  kept_is = records_of_kept config start log turns

  lists_so : records_at config start (log ++ more) (turns ++ take_of o ∷ done_of o (length (log ++ more)) h items fill ∷ [])
      ≡ list_after_items config.implicit_dirs start (log ++ more) o.clock (records_taken config (reached config start log turns) (records_at config start log turns) o) items
  lists_so = sym (records_of_kept config start whole (turns ++ both))
      ∙ (ap (λ (k : Kept). k.records) keeps_call.keeps
      ∙ ap (λ list. list_after_items config.implicit_dirs start whole o.clock (records_taken config before list o) items) kept_is)

  -- the flags of the call, where its end is told
  told_both : AreTold config.implicit_dirs start (log ++ more) o.clock (records_taken config (reached config start log turns) (kept_at config start log turns).records o) items
      → AllTold config start (log ++ more) (reached config start log turns) (kept_at config start log turns).records (take_of o ∷ done_of o (length (log ++ more)) h items fill ∷ [])
  told_both told = (
    tt,
    subst (λ list. AllTold config start whole (after_turn config start whole before (take_of o)) list (done_of o (length whole) h items fill ∷ []))
        (sym (sym (records_after_turn config start whole before kept (take_of o)) ∙ ap (λ (k : Kept). k.records) (taken_keeps config start log before o taken kept more)))
        (subst (λ s. AllTold config start whole s (records_taken config before kept.records o) (done_of o (length whole) h items fill ∷ [])) (sym (taken_leaves config start log before o taken more)) (
          subst (λ found. IfSome found (λ (x : OpenCall). AreTold config.implicit_dirs start whole x.clock (records_taken config before kept.records o) items))
              (sym (is_open config start whole before o (length whole) h items fill)) told,
          tt,
        )),
  )

  told_so : RecordsAreTold config start log turns → AllKnown start (log ++ more) (records_at config start log turns) items
      → OwnAreTold config.implicit_dirs start (log ++ more) o.clock (records_taken config (reached config start log turns) (records_at config start log turns) o) items
      → RecordsAreTold config start (log ++ more) (turns ++ take_of o ∷ done_of o (length (log ++ more)) h items fill ∷ [])
  told_so recorded uses own =
      AllTold-append config start whole first_journal (empty_list config.record_capacity) turns both (over.told recorded)
      (subst (λ list. AllTold config start whole (reached config start whole turns) list both)
      (sym (ap (λ (k : Kept). k.records) over.keeps) ∙ records_of_kept config start whole turns)
      (subst (λ s. AllTold config start whole s kept.records both) (sym grown.reaches)
      (told_both
      (subst (λ list. AreTold config.implicit_dirs start whole o.clock (records_taken config before list o) items) (sym kept_is)
      (ends_told config start whole before o (length whole) h items fill list_before (past_of before.ended) (keeps_up_at config start log turns recorded) uses own)))))

  pub lists_call : ListsCall config start log more turns o h items fill
  lists_call = record { lists = lists_so; told = told_so }
