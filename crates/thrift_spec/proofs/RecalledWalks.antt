-- A record that lives at a take serves the call that is taken; and the walk of the call goes on by what it tells.
use Rattle.std.proofs.Common.{◌≡◌, ℕ, ◌≤◌, append-nil, Contains, List, [], ◌∷◌, ◌++◌, length, Option, Some, sym, ap, subst, ◌∙◌}
use Rattle.std.proofs.lemmas.List.Elements.{filter_map-append}
use Rattle.std.specs.List.{AllByRecursion, cons_option}
use Rattle.bucket_api.specs.BucketState.{BucketState}
use Rattle.bucket_api.specs.LogEvent.{LogEvent}
use Rattle.bucket_api.specs.Operation.{Operation}
use Rattle.history_spec.proofs.Walking.{IsWalk, IsWalk-walked, Walked, Walked-walks}
use Rattle.history_spec.specs.Account.{Account, Item, moment_of, own_moments_of, own_of, recalled}
use Rattle.history_spec.specs.Fits.{HasWalked, MayTell}
use Rattle.history_spec.specs.JournalState.{OpenCall, reached}
use Rattle.history_spec.specs.Laws.{IsTaken}
use Rattle.history_spec.specs.Looks.{IsLook, MayRecall, keys_taken}
use Rattle.history_spec.specs.Observing.{observed_at, own_moments, seen_by}
use Rattle.history_spec.specs.Pasts.{key_of, lifetime_of}
use Rattle.mount_model.specs.Observing.{Observed}
use Rattle.mount_model.specs.declared.config.Config.{Config}
use Rattle.mount_rules.specs.Plans.{Allows, Plan, answers_of, plan_after}
use Rattle.record_spec.specs.Steps.{live_record}
use Rattle.record_spec.specs.declared.records.Record.{Record}
use Rattle.thrift_spec.proofs.KeepingUp.{records_serve}
use Rattle.thrift_spec.specs.Laws.{call_at}
use Rattle.thrift_spec.specs.Records.{RecordsAreTold, records_at}
use Rattle.thrift_spec.specs.Recalls.{RecallsOn}

-- ---- a record that lives
module _ (config : Config) (start : BucketState) (log : List LogEvent) (turns : Account) (o : OpenCall) (taken : IsTaken config start log (reached config start log turns) o)
    (told : RecordsAreTold config start log turns) where
  abbrev call_taken : OpenCall
  call_taken = call_at config start log (reached config start log turns) o.call (length log) o.taken.request

  pub record_serves : (op : Operation) (r : Record) → Contains (keys_taken o.taken) (key_of op)
      → live_record (records_at config start log turns) (key_of op) o.clock (lifetime_of config (key_of op)) ≡ Some r → MayRecall o op r.moment
  record_serves op r asked lives =
      subst (λ (x : OpenCall). MayRecall x op r.moment) (sym taken.so)
      (records_serve config start log turns o.call (length log) o.taken.request op r told
      (subst (λ (x : OpenCall). Contains (keys_taken x.taken) (key_of op)) taken.so asked)
      (subst (λ clock. live_record (records_at config start log turns) (key_of op) clock (lifetime_of config (key_of op)) ≡ Some r) (ap (λ (x : OpenCall). x.clock) taken.so) lives))

-- ---- the walk
module _ (start : BucketState) (log : List LogEvent) (o : OpenCall) where
  walked_on : (plan : Plan) (items : List Item) (item : Item) (seen : Observed) → Walked start log o plan items
      → observed_at start log (moment_of item) ≡ Some seen → Allows (plan (answers_of (seen_by start log items))) seen.op → MayTell o seen.op item
      → Walked start log o plan (items ++ item ∷ [])
  walked_on plan [] item seen walked is allowed may = (seen, is, allowed, may, tt)
  walked_on plan (i ∷ items) item seen walked is allowed may = (
    walked.0,
    walked.1,
    walked.2,
    walked.3,
    walked_on (plan_after plan walked.0.answer) items item seen walked.4 is
        (subst (λ (first : Option Observed). Allows (plan (answers_of (cons_option first (seen_by start log items)))) seen.op) walked.1 allowed) may,
  )

all_then : {X : Type 0} (P : X → Type 0) (x : X) (xs : List X) → AllByRecursion P xs → P x → AllByRecursion P (xs ++ x ∷ [])
all_then P x [] all last = (last, tt)
all_then P x (y ∷ ys) all last = (all.0, all_then P x ys all.1 last)

-- A walk goes on, over the same log, by a look that the plan asks next and a record may serve, which tells of a moment up to
-- the front.
pub walk_recalls : (start : BucketState) (log : List LogEvent) (plan : Plan) (o : OpenCall) (front : ℕ) (items : List Item) (moment : ℕ) (seen : Observed)
    → HasWalked start log plan o front items → observed_at start log moment ≡ Some seen → moment ≤ front
    → Allows (plan (answers_of (seen_by start log items))) seen.op → IsLook seen.op → MayRecall o seen.op moment
    → RecallsOn start log plan o front items moment seen
walk_recalls start log plan o front items moment seen walk is within allowed look may = record {
  walk = record { told = whole.told; within = all_then (λ i. moment_of i ≤ front) (recalled moment) items walk.within within; walked = whole.walked; own = mine };
  saw = filter_map-append (λ i. observed_at start log (moment_of i)) items (recalled moment ∷ [])
      ∙ ap (λ (last : Option Observed). seen_by start log items ++ cons_option last []) is;
}
  where
    whole : IsWalk start log o plan (items ++ recalled moment ∷ [])
    whole = IsWalk-walked start log o plan (items ++ recalled moment ∷ [])
        (walked_on start log o plan items (recalled moment) seen (Walked-walks start log o plan items walk.told walk.walked) is allowed (look, may))

    mine : own_moments_of (items ++ recalled moment ∷ []) ≡ own_moments log o.call.lane o.front front
    mine = filter_map-append own_of items (recalled moment ∷ []) ∙ (append-nil (own_moments_of items) ∙ walk.own)
