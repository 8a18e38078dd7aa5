-- A call that is taken walks on by a record that lives: the log tells, at the record's moment, of the very look that the call
-- asks, and of an answer that shows what the record shows.
use Rattle.std.proofs.Common.{◌≡◌, ◌≤◌, ℕ, All, Bool, Contains, IfSome, List, [], ◌∷◌, ◌++◌, true, false, cond, length, Option, Some, None, refl, sym, ap, subst, ◌∙◌, arith, length-append}
use Rattle.std.proofs.lemmas.List.{take-append-le}
use Rattle.std.proofs.lemmas.List.Elements.{All-append, All-contains, All-nil}
use Rattle.std.specs.List.{AllByRecursion}
use Rattle.std.specs.Option.{option_map_or}
use Rattle.std.specs.Prelude.{option_and_then, option_map, ◌==◌}
use Rattle.bucket_api.specs.BucketState.{BucketState}
use Rattle.bucket_api.specs.Log.{answer_at, event_at}
use Rattle.bucket_api.specs.LogEvent.{LogEvent}
use Rattle.bucket_api.specs.Operation.{Operation}
use Rattle.bucket_api.specs.declared.answers.Answer.{Answer}
use Rattle.history_spec.proofs.Agreeing.{observed_same}
use Rattle.history_spec.proofs.Lanes.{all_others}
use Rattle.history_spec.proofs.Walking.{Walked, Walked-walks}
use Rattle.history_spec.specs.Account as account
use Rattle.history_spec.specs.Account.{Account, Item, Turn, looked, made, moment_of, recalled}
use Rattle.history_spec.specs.Fits.{Follows, HasWalked, IsAccount, MayFollow, plan_of}
use Rattle.history_spec.specs.JournalState.{JournalState, OpenCall, after_done, after_turn, after_turns, first_journal, open_of, past_of, reached, with_taken}
use Rattle.history_spec.specs.Laws.{IsTaken}
use Rattle.history_spec.specs.Looks.{IsLook, MayRecall, keys_taken}
use Rattle.history_spec.specs.Observing.{observed_at, seen_by}
use Rattle.history_spec.specs.Pasts.{key_of, lifetime_of, saw, shown_of, told_by}
use Rattle.mount_laws.proofs.Mounts.{IsMount-first}
use Rattle.mount_model.specs.Observing.{Observed}
use Rattle.mount_model.specs.declared.config.Config.{Config}
use Rattle.mount_rules.specs.Mount.{IsMount}
use Rattle.mount_rules.specs.Plans.{Allows, Plan, answers_of, plan_after}
use Rattle.record_spec.proofs.KnownLaws.{live_record_is}
use Rattle.record_spec.specs.RecordList.{Key}
use Rattle.record_spec.specs.Steps.{live_record}
use Rattle.record_spec.specs.declared.records.Record.{Record}
use Rattle.record_spec.specs.declared.records.Shown.{Shown}
use Rattle.thrift_spec.proofs.LooksAreOne.{looks_are_one}
use Rattle.thrift_spec.proofs.OneCall.{keeps_up_at}
use Rattle.thrift_spec.proofs.RecalledWalks.{record_serves, walk_recalls}
use Rattle.thrift_spec.proofs.RecordsTell.{all_option, record_tells}
use Rattle.thrift_spec.specs.Records.{RecordsAreTold, records_at}
use Rattle.thrift_spec.specs.Recalls.{IsOfLog, RecallsOn, look_for}

-- at the moment of the record its key was looked up
pub record IsOfLook (start : BucketState) (log : List LogEvent) (implicit : Bool) (key : Key) (r : Record) : Type 0 where
  pub observed : Observed
  pub is : observed_at start log r.moment ≡ Some observed
  pub op_is : observed.op ≡ look_for implicit key

-- each look that the plan allows, wherever it has come to, is the one of its key
abbrev AsksKeys : Bool → Plan → Type 0
AsksKeys implicit plan = (told : List Answer) (op : Operation) → Allows (plan told) op → IsLook op → op ≡ look_for implicit (key_of op)

module _ (start : BucketState) (log : List LogEvent) (implicit : Bool) where
  abbrev OfLook : Key × Record → Type 0
  OfLook u = IsOfLook start log implicit u.0 u.1

  module _ (o : OpenCall) (clock : ℕ) where
    own_look : (moment : ℕ) (kept : Bool) (seen : Observed) → observed_at start log moment ≡ Some seen → seen.op ≡ look_for implicit (key_of seen.op)
        → IfSome (saw clock (looked moment kept) seen) OfLook
    own_look moment kept seen is op_is = by (shown_of seen.answer)
      where
        by : (shown : Option Shown) → IfSome (option_map (λ s. (key_of seen.op, record { moment = moment; tick = clock; shown = s })) shown) OfLook
        by None = tt
        by (Some s) = record { observed = seen; is = is; op_is = op_is }

    one_item : (plan : Plan) → AsksKeys implicit plan → (item : Item) (items : List Item) (walked : Walked start log o plan (item ∷ items)) → IfSome (saw clock item walked.0) OfLook
    one_item plan asks (looked moment kept) items walked = own_look moment kept walked.0 walked.1 (asks [] walked.0.op walked.2 walked.3)
    one_item plan asks (recalled moment) items walked = tt
    one_item plan asks (made moment) items walked = tt

    items_look : (plan : Plan) → AsksKeys implicit plan → (items : List Item) → Walked start log o plan items → All OfLook (told_by start log (saw clock) items)
    items_look plan asks [] walked = All-nil OfLook
    items_look plan asks (item ∷ items) walked =
        all_option OfLook (option_and_then (saw clock item) (observed_at start log (moment_of item))) (told_by start log (saw clock) items)
        (subst (λ seen. IfSome (option_and_then (saw clock item) seen) OfLook) (sym walked.1) (one_item plan asks item items walked))
        (items_look (plan_after plan walked.0.answer) (λ told. asks (walked.0.answer ∷ told)) items walked.4)

-- ---- along an account
-- each turn leaves a mount
abbrev pub KeepsMount : Config → BucketState → List LogEvent → Type 0
KeepsMount config start log = (state : JournalState) (turn : Turn) → IsMount state.mount → IsMount (after_turn config start log state turn).mount

module _ (config : Config) (start : BucketState) (log : List LogEvent) where
  abbrev HasConfig : OpenCall → Type 0
  HasConfig o = o.taken.at.config ≡ config

  pub record KnowsLooks (state : JournalState) : Type 0 where
    pub mount : IsMount state.mount
    pub configs : AllByRecursion (λ (o : OpenCall). o.taken.at.config ≡ config) state.opened
    pub looks : All (λ (u : Key × Record). IsOfLook start log config.implicit_dirs u.0 u.1) (past_of state.ended).seen

  open_has : (lane : ℕ) (os : List OpenCall) → AllByRecursion (λ (o : OpenCall). o.taken.at.config ≡ config) os → IfSome (open_of os lane) (λ (o : OpenCall). o.taken.at.config ≡ config)
  open_has lane [] all = tt
  open_has lane (o ∷ os) all = by (o.call.lane == lane) (open_has lane os all.1)
    where
      by : (b : Bool) → IfSome (open_of os lane) HasConfig → IfSome (cond b (Some o) (open_of os lane)) HasConfig
      by true rest = all.0
      by false rest = rest

  turn_knows : KeepsMount config start log → (state : JournalState) (turn : Turn) → MayFollow start log state turn → KnowsLooks state → KnowsLooks (after_turn config start log state turn)
  turn_knows stays state (account.take call front request) may knows =
      record { mount = stays state (account.take call front request) knows.mount; configs = (refl, knows.configs); looks = knows.looks }
  turn_knows stays state (account.tick front seconds) may knows =
      record { mount = stays state (account.tick front seconds) knows.mount; configs = knows.configs; looks = knows.looks }
  turn_knows stays state (account.done call front h items fill) may knows =
      subst KnowsLooks (sym done_is) (record {
        mount = subst (λ (s : JournalState). IsMount s.mount) done_is (stays state (account.done call front h items fill) knows.mount);
        configs = all_others HasConfig HasConfig may.next.0.call.lane (λ x differ has. has) state.opened knows.configs;
        looks = All-append (OfLook start log config.implicit_dirs) (told_by start log (saw may.next.0.clock) items) (past_of state.ended).seen
            (items_look start log config.implicit_dirs may.next.0 may.next.0.clock (plan_of state may.next.0) asks items
            (Walked-walks start log may.next.0 (plan_of state may.next.0) items may.next.3.walk.told may.next.3.walk.walked)) knows.looks;
      })
    where
      done_is : after_turn config start log state (account.done call front h items fill) ≡ after_done start log state front h items may.next.0
      done_is = ap (λ found. option_map_or (after_done start log state front h items) found state) may.next.1

      config_is : may.next.0.taken.at.config ≡ config
      config_is = subst (λ found. IfSome found HasConfig) may.next.1 (open_has call.lane state.opened knows.configs)

      asks : AsksKeys config.implicit_dirs (plan_of state may.next.0)
      asks told op allowed look =
          looks_are_one may.next.0.taken.at state.mount knows.mount may.next.0.taken.request told op allowed look
          ∙ ap (λ (c : Config). look_for c.implicit_dirs (key_of op)) config_is

  turns_know : KeepsMount config start log → (state : JournalState) (turns : Account) → Follows config start log state turns → KnowsLooks state → KnowsLooks (after_turns config start log state turns)
  turns_know stays state [] follows knows = knows
  turns_know stays state (turn ∷ turns) follows knows = turns_know stays (after_turn config start log state turn) turns follows.1 (turn_knows stays state turn follows.0 knows)

  pub reached_knows : KeepsMount config start log → (turns : Account) → IsAccount config start log turns → KnowsLooks (reached config start log turns)
  reached_knows stays turns is = turns_know stays first_journal turns is.follows (record { mount = IsMount-first; configs = tt; looks = All-nil (OfLook start log config.implicit_dirs) })

  -- a record that lives in the list of an account
  pub record_looks : KeepsMount config start log → (turns : Account) (key : Key) (now lifetime : ℕ) (r : Record) → IsAccount config start log turns → RecordsAreTold config start log turns
      → live_record (records_at config start log turns) key now lifetime ≡ Some r → IsOfLook start log config.implicit_dirs key r
  record_looks stays turns key now lifetime r is told lives =
      All-contains (OfLook start log config.implicit_dirs) (past_of (reached config start log turns).ended).seen (key, r) (reached_knows stays turns is).looks
      ((keeps_up_at config start log turns told).shown key r (live_record_is (records_at config start log turns) key now lifetime r lives).0)

-- what is observed at a moment has that moment
pub moment_told : (start : BucketState) (log : List LogEvent) (moment : ℕ) (seen : Observed) → observed_at start log moment ≡ Some seen → seen.moment ≡ moment
moment_told start log moment seen is = by (event_at log moment) (answer_at start log moment) is
  where
    by : (found : Option LogEvent) (answer : Option Answer)
        → option_and_then (λ (e : LogEvent). option_map (λ a. record { op = e.op; moment = moment; answer = a }) answer) found ≡ Some seen → seen.moment ≡ moment
    by None answer its = absurd (cc)
    by (Some e) None its = absurd (cc)
    by (Some e) (Some a) its = let same : record { op = e.op; moment = moment; answer = a } ≡ seen = cc in sym (ap (λ (s : Observed). s.moment) same)

-- ---- the call that is taken
-- What a record tells at a step of the call: the very look that is asked; an answer that shows what the record shows; and the
-- walk with it.
pub record Recalls (start : BucketState) (log : List LogEvent) (plan : Plan) (o : OpenCall) (items : List Item) (op : Operation) (r : Record) : Type 0 where
  pub seen : Observed
  pub moment : seen.moment ≡ r.moment
  pub op_is : seen.op ≡ op
  pub shown : shown_of seen.answer ≡ Some r.shown
  pub on : RecallsOn start log plan o (length log) items r.moment seen

-- a look of the call that is asked next, of a key for which it looks, and of which a record lived at its take
pub record AsksRecorded (config : Config) (start : BucketState) (log more : List LogEvent) (turns : Account) (o : OpenCall) (items : List Item) (op : Operation) (r : Record) : Type 0 where
  pub walk : HasWalked start (log ++ more) (plan_of (with_taken (reached config start log turns) o) o) o (length (log ++ more)) items
  pub allowed : Allows (plan_of (with_taken (reached config start log turns) o) o (answers_of (seen_by start (log ++ more) items))) op
  pub look : IsLook op
  pub asked : Contains (keys_taken o.taken) (key_of op)
  pub lives : live_record (records_at config start log turns) (key_of op) o.clock (lifetime_of config (key_of op)) ≡ Some r

module _ (config : Config) (start : BucketState) (log more : List LogEvent) (turns : Account) (o : OpenCall) (items : List Item) (op : Operation) (r : Record)
    (stays : KeepsMount config start log) (is : IsAccount config start log turns) (told : RecordsAreTold config start log turns)
    (taken : IsTaken config start log (reached config start log turns) o) (asks : AsksRecorded config start log more turns o items op r) where
  of_log : IsOfLog start log (reached config start log turns).front (key_of op) r
  of_log = record_tells config start log turns (key_of op) o.clock (lifetime_of config (key_of op)) r is told asks.lives

  of_look : IsOfLook start log config.implicit_dirs (key_of op) r
  of_look = record_looks config start log stays turns (key_of op) o.clock (lifetime_of config (key_of op)) r is told asks.lives

  one : of_look.observed ≡ of_log.observed
  one = let both : Some of_look.observed ≡ Some of_log.observed = sym of_look.is ∙ of_log.is in cc

  config_is : o.taken.at.config ≡ config
  config_is = ap (λ (x : OpenCall). x.taken.at.config) taken.so

  asked_is : op ≡ look_for config.implicit_dirs (key_of op)
  asked_is =
      looks_are_one o.taken.at (reached config start log turns).mount (reached_knows config start log stays turns is).mount o.taken.request (answers_of (seen_by start (log ++ more) items)) op asks.allowed asks.look
      ∙ ap (λ (c : Config). look_for c.implicit_dirs (key_of op)) config_is

  op_same : of_log.observed.op ≡ op
  op_same = sym (ap (λ (s : Observed). s.op) one) ∙ (of_look.op_is ∙ sym asked_is)

  low : r.moment ≤ length log
  low = let below : r.moment ≤ (reached config start log turns).front = of_log.within in let within : (reached config start log turns).front ≤ length log = is.within in omega arith

  seen_now : observed_at start (log ++ more) r.moment ≡ Some of_log.observed
  seen_now = sym (observed_same start log (log ++ more) (length log) (sym (take-append-le (length log) log more (omega arith))) r.moment low) ∙ of_log.is

  -- So the walk goes on by the record.
  pub recalls : Recalls start (log ++ more) (plan_of (with_taken (reached config start log turns) o) o) o items op r
  recalls = record {
    seen = of_log.observed;
    moment = moment_told start log r.moment of_log.observed of_log.is;
    op_is = op_same;
    shown = of_log.shown;
    on = walk_recalls start (log ++ more) (plan_of (with_taken (reached config start log turns) o) o) o (length (log ++ more)) items r.moment of_log.observed asks.walk seen_now
        (omega (arith, low, length-append log more))
        (subst (Allows (plan_of (with_taken (reached config start log turns) o) o (answers_of (seen_by start (log ++ more) items)))) (sym op_same) asks.allowed)
        of_log.look
        (subst (λ (p : Operation). MayRecall o p r.moment) (sym op_same) (record_serves config start log turns o taken told op r asks.asked asks.lives));
  }
