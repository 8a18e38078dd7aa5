-- The walk of a call under way, one event after another.
use Rattle.std.proofs.Common.{◌≡◌, ℕ, ◌+◌, ◌≤◌, List, [], ◌∷◌, ◌++◌, append-nil, cond, length, take, Some, refl, sym, ap, subst, ◌∙◌, arith, length-append}
use Rattle.std.specs.Prelude.{Option, slice_get, option_and_then}
use Rattle.std.specs.List.{AllByRecursion, cons_option}
use Rattle.std.proofs.lemmas.List.{take-append-le}
use Rattle.std.proofs.lemmas.List.Elements.{filter_map-append}
use Rattle.bucket_api.specs.BucketState.{BucketState}
use Rattle.bucket_api.specs.Log.{answer_at, answer_by, event_at, state_at}
use Rattle.bucket_api.specs.LogEvent.{LogEvent}
use Rattle.bucket_api.specs.Moments.{moment_at}
use Rattle.bucket_api.proofs.LogLaws.{answer_at-pushed}
use Rattle.bucket_api.proofs.MomentLaws.{at_moment-moment_at}
use Rattle.history_spec.specs.Account.{Item, looked, made, moment_of, own_moments_of, own_of, recalled}
use Rattle.history_spec.specs.Fits.{HasWalked, MayTell}
use Rattle.history_spec.specs.JournalState.{OpenCall}
use Rattle.history_spec.specs.Laws.{WalkBegins, WalkGoesOn, WalkStays, shown_by}
use Rattle.history_spec.specs.Observing.{observed_at, own_moments, seen_by}
use Rattle.history_spec.proofs.Agreeing.{seen_same, shown}
use Rattle.history_spec.proofs.Following.{walk_same, walk_within}
use Rattle.history_spec.proofs.Lanes.{other_lane, same_lane}
use Rattle.history_spec.proofs.OwnMoments.{all_weaker, own_behind, own_pushed}
use Rattle.history_spec.proofs.Walking.{IsWalk, IsWalk-walked, Walked, Walked-walks, walked_same}
use Rattle.mount_model.specs.Observing.{Observed}
use Rattle.mount_rules.specs.Plans.{Allows, Plan, answers_of, plan_after}

event_last : (log : List LogEvent) (event : LogEvent) → slice_get (log ++ event ∷ []) (length log) ≡ Some event
event_last [] event = refl
event_last (e ∷ log) event = event_last log event

-- what one more event shows is told at its moment
pub observed_pushed : (start : BucketState) (log : List LogEvent) (event : LogEvent)
    → observed_at start (log ++ event ∷ []) (moment_at (length log)) ≡ Some (shown_by start log event)
observed_pushed start log event =
    ap (option_and_then (shown (moment_at (length log)) (answer_at start (log ++ event ∷ []) (moment_at (length log))))) there
    ∙ ap (λ answer. shown (moment_at (length log)) answer event) answered
  where
    there : event_at (log ++ event ∷ []) (moment_at (length log)) ≡ Some event
    there = at_moment-moment_at (log ++ event ∷ []) (length log) ∙ event_last log event

    answered : answer_at start (log ++ event ∷ []) (moment_at (length log)) ≡ Some (answer_by event.mode event.op (state_at start log (length log)))
    answered =
        let long : moment_at (length log) ≡ length (log ++ event ∷ []) = omega (arith, length-append log (event ∷ [])) in
        ap (answer_at start (log ++ event ∷ [])) long ∙ answer_at-pushed start log event

module _ (start : BucketState) (log : List LogEvent) (o : OpenCall) where
  Walked-append : (plan : Plan) (items : List Item) (item : Item) (seen : Observed) → Walked start log o plan items
      → observed_at start log (moment_of item) ≡ Some seen → Allows (plan (answers_of (seen_by start log items))) seen.op → MayTell o seen.op item
      → Walked start log o plan (items ++ item ∷ [])
  Walked-append plan [] item seen walked is allowed may = (seen, is, allowed, may, tt)
  Walked-append plan (i ∷ items) item seen walked is allowed may = (
    walked.0,
    walked.1,
    walked.2,
    walked.3,
    Walked-append (plan_after plan walked.0.answer) items item seen walked.4 is
        (subst (λ (first : Option Observed). Allows (plan (answers_of (cons_option first (seen_by start log items)))) seen.op) walked.1 allowed) may,
  )

pub own_is_moment : (item : Item) (moment : ℕ) → own_of item ≡ Some moment → moment_of item ≡ moment
own_is_moment (looked m kept) moment is = cc
own_is_moment (recalled m) moment is = absurd (cc)
own_is_moment (made m) moment is = cc

all_then : {X : Type 0} (P : X → Type 0) (x : X) (xs : List X) → AllByRecursion P xs → P x → AllByRecursion P (xs ++ x ∷ [])
all_then P x [] all last = (last, tt)
all_then P x (y ∷ ys) all last = (all.0, all_then P x ys all.1 last)

pub walk_begins : WalkBegins
walk_begins start log plan o front = record { told = refl; within = tt; walked = tt; own = sym (ap (λ from. own_moments log o.call.lane from (length log)) front ∙ own_behind log o.call.lane) }

longer_same : (log : List LogEvent) (event : LogEvent) → take (length log) log ≡ take (length log) (log ++ event ∷ [])
longer_same log event = sym (take-append-le (length log) log (event ∷ []) (omega arith))

pub walk_goes_on : WalkGoesOn
walk_goes_on start log event plan o items item front walk its allowed own may = record {
  walk = record { told = whole.told; within = all_within; walked = whole.walked; own = mine };
  seen = filter_map-append (λ i. observed_at start (log ++ event ∷ []) (moment_of i)) items (item ∷ [])
      ∙ (ap (λ (seen : List Observed). seen ++ cons_option (observed_at start (log ++ event ∷ []) (moment_of item)) []) (sym seen)
      ∙ ap (λ (last : Option Observed). seen_by start log items ++ cons_option last []) shown);
}
  where
    within : AllByRecursion (λ i. moment_of i ≤ length log) items
    within = walk_within start log (log ++ event ∷ []) (length log) (longer_same log event) plan o (length log) items (omega arith) walk

    seen : seen_by start log items ≡ seen_by start (log ++ event ∷ []) items
    seen = seen_same start log (log ++ event ∷ []) (length log) (longer_same log event) items within

    shown : observed_at start (log ++ event ∷ []) (moment_of item) ≡ Some (shown_by start log event)
    shown = ap (observed_at start (log ++ event ∷ [])) (own_is_moment item (moment_at (length log)) own) ∙ observed_pushed start log event

    long : length (log ++ event ∷ []) ≡ length log + 1
    long = length-append log (event ∷ [])

    all_within : AllByRecursion (λ i. moment_of i ≤ length (log ++ event ∷ [])) (items ++ item ∷ [])
    all_within = all_then (λ i. moment_of i ≤ length (log ++ event ∷ [])) item items
        (all_weaker (λ i. moment_of i ≤ length log) (λ i. moment_of i ≤ length (log ++ event ∷ [])) (λ i is. omega (arith, is, long)) items walk.within)
        (let at : moment_of item ≡ moment_at (length log) = own_is_moment item (moment_at (length log)) own in omega (arith, at, long))

    whole : IsWalk start (log ++ event ∷ []) o plan (items ++ item ∷ [])
    whole = IsWalk-walked start (log ++ event ∷ []) o plan (items ++ item ∷ [])
        (Walked-append start (log ++ event ∷ []) o plan items item (shown_by start log event)
        (walked_same start log (log ++ event ∷ []) (length log) (longer_same log event) o plan items within
        (Walked-walks start log o plan items walk.told walk.walked))
        shown (subst (λ (s : List Observed). Allows (plan (answers_of s)) event.op) seen allowed) may)

    mine : own_moments_of (items ++ item ∷ []) ≡ own_moments (log ++ event ∷ []) o.call.lane o.front (length (log ++ event ∷ []))
    mine = filter_map-append own_of items (item ∷ [])
        ∙ (ap (λ (last : Option ℕ). own_moments_of items ++ cons_option last []) own
        ∙ (ap (λ moments. moments ++ moment_at (length log) ∷ []) walk.own
        ∙ (sym (ap (λ t. own_moments log o.call.lane o.front (length log) ++ cond t ((length log + 1) ∷ []) []) (same_lane event.lane o.call.lane its))
        ∙ sym (own_pushed log event o.call.lane o.front front))))

pub walk_stays : WalkStays
walk_stays start log event plan o items front walk differ = record {
  told = same.told;
  within = all_weaker (λ i. moment_of i ≤ length log) (λ i. moment_of i ≤ length (log ++ event ∷ []))
      (λ i is. let long : length (log ++ event ∷ []) ≡ length log + 1 = length-append log (event ∷ []) in omega (arith, is, long)) items walk.within;
  walked = same.walked;
  own = walk.own
      ∙ (sym (append-nil (own_moments log o.call.lane o.front (length log)))
      ∙ (sym (ap (λ t. own_moments log o.call.lane o.front (length log) ++ cond t ((length log + 1) ∷ []) []) (other_lane event.lane o.call.lane differ))
      ∙ sym (own_pushed log event o.call.lane o.front front)));
}
  where
    same : HasWalked start (log ++ event ∷ []) plan o (length log) items
    same = walk_same start log (log ++ event ∷ []) (length log) (longer_same log event) plan o (length log) items (omega arith) walk
