-- A call that went by what it found at its take is thrifty: no record lived of a key at which it looks itself, and a record that
-- served was found.
use Rattle.std.proofs.Common.{map, ◌≡◌, ◌≤◌, ℕ, Contains, List, [], ◌∷◌, ◌++◌, length, Option, Some, None, IfSome, refl, sym, ap, subst, ◌∙◌, arith}
use Rattle.std.proofs.lemmas.List.{take-append-le}
use Rattle.std.specs.List.{cons_option}
use Rattle.bucket_api.specs.BucketState.{BucketState}
use Rattle.bucket_api.specs.LogEvent.{LogEvent}
use Rattle.bucket_api.specs.Operation.{Operation}
use Rattle.bucket_api.specs.declared.answers.Answer.{Answer}
use Rattle.history_spec.proofs.Agreeing.{observed_same}
use Rattle.history_spec.proofs.Walking.{Walked, Walked-walks}
use Rattle.history_spec.specs.Account.{Account, Item, looked, made, moment_of, recalled}
use Rattle.history_spec.specs.Fits.{HasWalked, IsAccount, MayTell}
use Rattle.history_spec.specs.JournalState.{OpenCall, reached}
use Rattle.history_spec.specs.Laws.{IsTaken}
use Rattle.history_spec.specs.Observing.{observed_at, seen_by}
use Rattle.history_spec.specs.Pasts.{key_of, lifetime_of, shown_of}
use Rattle.mount_kept.proofs.Served.{keys_are}
use Rattle.mount_kept.proofs.Serving.{found_is_of_record}
use Rattle.mount_kept.proofs.Takings.{left_of}
use Rattle.mount_kept.proofs.ThriftMissed.{PlanMisses, StepMisses, TellsAs, plan_misses}
use Rattle.mount_kept.specs.Items.{unflagged}
use Rattle.mount_kept.specs.Recalls.{found_for, found_left}
use Rattle.mount_kept.specs.Serves.{IsOfRecord, found_of}
use Rattle.mount_kept.specs.Takings.{AllGoBy, GoesBy, IsLeftOf}
use Rattle.mount_kept.specs.declared.recall.Found.{Found}
use Rattle.mount_kept.specs.declared.recall.Recall.{Recall}
use Rattle.mount_model.specs.Observing.{Observed}
use Rattle.mount_model.specs.declared.config.Config.{Config}
use Rattle.mount_rules.specs.Dispatch.{plan, rules_of, view_in}
use Rattle.mount_rules.specs.Mount.{MountModel}
use Rattle.mount_rules.specs.Plans.{Allows, Plan, plan_after}
use Rattle.mount_rules.specs.Requests.Lookup.{probed}
use Rattle.record_spec.specs.RecordList.{Key, RecordList}
use Rattle.record_spec.specs.Steps.{live_record}
use Rattle.thrift_spec.proofs.Probes.{record_probes}
use Rattle.thrift_spec.proofs.Recalling.{KeepsMount, reached_knows}
use Rattle.thrift_spec.proofs.RecordsTell.{record_tells}
use Rattle.thrift_spec.specs.Recalls.{IsOfLog}
use Rattle.thrift_spec.specs.Records.{RecordsAreTold, answer_of, records_at}
use Rattle.thrift_spec.specs.Thrift.{AllThrifty, IsThrifty}

some_same : {X : Type 0} {x y : X} → Some x ≡ Some y → x ≡ y
some_same e = cc

none_or_some : {P : Type 0} (recall : Recall) (found : Option Recall) → found ≡ None → found ≡ Some recall → P
none_or_some recall found none some = absurd (let never : None ≡ Some recall = sym none ∙ some in cc)

module _ (config : Config) (start : BucketState) (log more : List LogEvent) (turns : Account) (o : OpenCall) (stays : KeepsMount config start log)
    (account : IsAccount config start log turns) (recorded : RecordsAreTold config start log turns) (taken : IsTaken config start log (reached config start log turns) o) where
  abbrev mount : MountModel
  mount = (reached config start log turns).mount

  abbrev records : RecordList
  records = records_at config start log turns

  abbrev way : Plan
  way = plan o.taken.at (reached config start log turns).mount o.taken.request

  abbrev keys : List Key
  keys = (rules_of o.taken.request).keys (view_in (reached config start log turns).mount o.taken.request)

  abbrev found : Found
  found = found_of config o.clock way records keys

  settings : o.taken.at.config ≡ config
  settings = ap (λ (x : OpenCall). x.taken.at.config) taken.so

  -- what was found is of a record that lived
  abbrev PlanFinds : Plan → Type 0
  PlanFinds onward = (told : List Answer) (op : Operation) (recall : Recall) → Allows (onward told) op → found_for found op ≡ Some recall → IsOfRecord config o.clock records keys op recall

  finds : PlanFinds (plan o.taken.at (reached config start log turns).mount o.taken.request)
  finds told op recall allowed is =
      found_is_of_record config o.clock records way o.taken.at mount (reached_knows config start log stays turns account).mount o.taken.request told op recall allowed is

  -- ---- one item
  item_thrifty : (onward : Plan) (left : Found) (item : Item) (seen : Observed) → PlanFinds onward → IsLeftOf left found → StepMisses config o.clock records keys left (onward [])
      → Allows (onward []) seen.op → MayTell o seen.op item → GoesBy left item seen → IsThrifty start (log ++ more) o (records_at config start log turns) item seen
  item_thrifty onward left (looked moment kept) seen its part misses allowed may goes = λ among.
      subst (λ (c : Config). live_record records (key_of seen.op) o.clock (lifetime_of c (key_of seen.op)) ≡ None) (sym settings)
      (misses seen.op allowed may (subst (λ (ks : List Key). Contains ks (key_of seen.op)) (sym (keys_are config start log (reached config start log turns) o taken)) among) goes)
  item_thrifty onward left (recalled moment) seen its part misses allowed may goes =
      let of : IsOfRecord config o.clock records keys seen.op goes.0 = its [] seen.op goes.0 allowed (part seen.op goes.0 goes.1) in (
        of.r,
        subst (λ (c : Config). live_record records (key_of seen.op) o.clock (lifetime_of c (key_of seen.op)) ≡ Some of.r) (sym settings) of.lives,
        sym (ap (λ (r : Recall). r.moment) of.is) ∙ goes.2,
      )
  item_thrifty onward left (made moment) seen its part misses allowed may goes = tt

  -- ---- the first
  -- what the log tells of a record that was found is what it shows
  module _ (seen : Observed) (recall : Recall) (of : IsOfRecord config o.clock records keys seen.op recall) (there : observed_at start (log ++ more) recall.moment ≡ Some seen) where
    told : IsOfLog start log (reached config start log turns).front (key_of seen.op) of.r
    told = record_tells config start log turns (key_of seen.op) o.clock (lifetime_of config (key_of seen.op)) of.r account recorded of.lives

    same : seen ≡ told.observed
    same = some_same
        (sym there ∙ (ap (λ (r : Recall). observed_at start (log ++ more) r.moment) of.is
        ∙ (observed_same start (log ++ more) log (length log) (take-append-le (length log) log more (omega arith)) of.r.moment
        (let low : of.r.moment ≤ (reached config start log turns).front = told.within in let within : (reached config start log turns).front ≤ length log = account.within in omega arith)
        ∙ told.is)))

    tells_so : probed seen.answer ≡ probed (answer_of recall.shown)
    tells_so =
        record_probes seen.answer of.r.shown (ap (λ (x : Observed). shown_of x.answer) same ∙ told.shown)
        ∙ ap (λ (r : Recall). probed (answer_of r.shown)) (sym of.is)

  tells_as : (item : Item) (seen : Observed) → observed_at start (log ++ more) (moment_of item) ≡ Some seen → Allows (plan o.taken.at (reached config start log turns).mount o.taken.request []) seen.op
      → MayTell o seen.op item → GoesBy (found_of config o.clock (plan o.taken.at (reached config start log turns).mount o.taken.request) (records_at config start log turns) ((rules_of o.taken.request).keys (view_in (reached config start log turns).mount o.taken.request))) item seen
      → TellsAs (found_of config o.clock (plan o.taken.at (reached config start log turns).mount o.taken.request) (records_at config start log turns) ((rules_of o.taken.request).keys (view_in (reached config start log turns).mount o.taken.request))) seen.op seen.answer
  tells_as (looked moment kept) seen there allowed may goes recall is = none_or_some recall (found_for found seen.op) goes is
  tells_as (recalled moment) seen there allowed may goes recall is =
      let same : goes.0 ≡ recall = some_same (sym goes.1 ∙ is) in
      tells_so seen recall (finds [] seen.op recall allowed is) (ap (observed_at start (log ++ more)) (sym (ap (λ (r : Recall). r.moment) same) ∙ goes.2) ∙ there)
  tells_as (made moment) seen there allowed may goes recall is = absurd (may (finds [] seen.op recall allowed is).look)

  -- ---- item by item
  abbrev Goes : Found → List Item → Type 0
  Goes left items = AllGoBy left items (seen_by start (log ++ more) items)

  abbrev Thrifty : List Item → Type 0
  Thrifty items = AllThrifty start (log ++ more) o (records_at config start log turns) items

  -- an item and those behind it
  with_first : (onward : Plan) (left : Found) (item : Item) (items : List Item) (walked : Walked start (log ++ more) o onward (item ∷ items)) → PlanFinds onward → IsLeftOf left found
      → StepMisses config o.clock records keys left (onward []) → GoesBy left item walked.0 → Thrifty items → Thrifty (item ∷ items)
  with_first onward left item items walked its part misses goes behind = (
    subst (λ (s : Option Observed). IfSome s (IsThrifty start (log ++ more) o records item)) (sym walked.1)
        (item_thrifty onward left item walked.0 its part misses walked.2 walked.3 goes),
    behind,
  )

  goes_first : (left : Found) (item : Item) (items : List Item) (seen : Observed) → observed_at start (log ++ more) (moment_of item) ≡ Some seen → Goes left (item ∷ items)
      → GoesBy left item seen × AllGoBy (found_left left seen.op) items (seen_by start (log ++ more) items)
  goes_first left item items seen there goes = subst (λ (s : Option Observed). AllGoBy left (item ∷ items) (cons_option s (seen_by start (log ++ more) items))) there goes

  left_then : (left : Found) (op : Operation) → IsLeftOf left found → IsLeftOf (found_left left op) found
  left_then left op part other r is = part other r (left_of left op other r is)

  later_thrifty : (onward : Plan) → PlanFinds onward → ((left : Found) (told : List Answer) → StepMisses config o.clock records keys left (onward told)) → (items : List Item) (left : Found)
      → IsLeftOf left found → Walked start (log ++ more) o onward items → Goes left items → Thrifty items
  later_thrifty onward its misses [] left part walked goes = tt
  later_thrifty onward its misses (item ∷ items) left part walked goes =
      let here = goes_first left item items walked.0 walked.1 goes in
      with_first onward left item items walked its part (misses left []) here.0
      (later_thrifty (plan_after onward walked.0.answer) (λ told. its (walked.0.answer ∷ told)) (λ rest told. misses rest (walked.0.answer ∷ told)) items (found_left left walked.0.op)
      (left_then left walked.0.op part) walked.4 here.1)

  second_thrifty : (a : Answer) (items : List Item) (left : Found) → PlanMisses config o.clock records keys found (plan o.taken.at (reached config start log turns).mount o.taken.request)
      → StepMisses config o.clock records keys left (plan o.taken.at (reached config start log turns).mount o.taken.request (a ∷ [])) → IsLeftOf left found
      → Walked start (log ++ more) o (plan_after (plan o.taken.at (reached config start log turns).mount o.taken.request) a) items → Goes left items → Thrifty items
  second_thrifty a [] left misses next part walked goes = tt
  second_thrifty a (item ∷ items) left misses next part walked goes =
      let here = goes_first left item items walked.0 walked.1 goes in
      with_first (plan_after way a) left item items walked (λ told. finds (a ∷ told)) part next here.0
      (later_thrifty (plan_after (plan_after way a) walked.0.answer) (λ told. finds (a ∷ walked.0.answer ∷ told)) (λ rest told. misses.later rest a walked.0.answer told) items
      (found_left left walked.0.op) (left_then left walked.0.op part) walked.4 here.1)

  all_thrifty : (items : List Item) → PlanMisses config o.clock records keys found (plan o.taken.at (reached config start log turns).mount o.taken.request)
      → Walked start (log ++ more) o (plan o.taken.at (reached config start log turns).mount o.taken.request) items → Goes found items → Thrifty items
  all_thrifty [] misses walked goes = tt
  all_thrifty (item ∷ items) misses walked goes =
      let here = goes_first found item items walked.0 walked.1 goes in
      with_first way found item items walked finds (λ op r is. is) misses.first here.0
      (second_thrifty walked.0.answer items (found_left found walked.0.op) misses
      (misses.second walked.0.op walked.0.answer walked.2 (tells_as item walked.0 walked.1 walked.2 walked.3 here.0)) (left_of found walked.0.op) walked.4 here.1)

  -- The items of a call that goes by what it found are thrifty.
  pub goes_thrifty : (front : ℕ) (items : List Item) → HasWalked start (log ++ more) (plan o.taken.at (reached config start log turns).mount o.taken.request) o front items
      → AllGoBy (found_of config o.clock (plan o.taken.at (reached config start log turns).mount o.taken.request) (records_at config start log turns) ((rules_of o.taken.request).keys (view_in (reached config start log turns).mount o.taken.request)))
      items (seen_by start (log ++ more) items)
      → AllThrifty start (log ++ more) o (records_at config start log turns) items
  goes_thrifty front items walk goes =
      all_thrifty items (plan_misses config o.clock records way o.taken.at mount (reached_knows config start log stays turns account).mount o.taken.request (λ told. refl))
      (Walked-walks start (log ++ more) o way items walk.told walk.walked) goes

-- ---- flags
-- The flags of items say nothing of it: with other flags they are thrifty too.
module _ (start : BucketState) (log : List LogEvent) (o : OpenCall) (found : RecordList) where
  abbrev ItemThrifty : Item → Type 0
  ItemThrifty item = IfSome (observed_at start log (moment_of item)) (IsThrifty start log o found item)

  one_unflagged : (item : Item) → ItemThrifty item → ItemThrifty (unflagged item)
  one_unflagged (looked moment kept) its = its
  one_unflagged (recalled moment) its = its
  one_unflagged (made moment) its = its

  one_flagged : (item : Item) → ItemThrifty (unflagged item) → ItemThrifty item
  one_flagged (looked moment kept) its = its
  one_flagged (recalled moment) its = its
  one_flagged (made moment) its = its

  all_unflagged : (items : List Item) → AllThrifty start log o found items → AllThrifty start log o found (map unflagged items)
  all_unflagged [] all = tt
  all_unflagged (item ∷ items) all = (one_unflagged item all.0, all_unflagged items all.1)

  all_flagged : (items : List Item) → AllThrifty start log o found (map unflagged items) → AllThrifty start log o found items
  all_flagged [] all = tt
  all_flagged (item ∷ items) all = (one_flagged item all.0, all_flagged items all.1)

  pub thrifty_flagged : (items told : List Item) → map unflagged told ≡ map unflagged items → AllThrifty start log o found items → AllThrifty start log o found told
  thrifty_flagged items told same all = all_flagged told (subst (AllThrifty start log o found) (sym same) (all_unflagged items all))
