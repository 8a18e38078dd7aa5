-- The flags of items say nothing of what the items saw: with other flags the walk is the same.
use Rattle.std.proofs.Common.{◌≡◌, ℕ, List, [], ◌∷◌, map, refl, sym, ap, subst, ◌∙◌}
use Rattle.std.specs.List.{AllByRecursion, cons_option}
use Rattle.std.specs.Prelude.{◌≤◌}
use Rattle.bucket_api.specs.BucketState.{BucketState}
use Rattle.bucket_api.specs.LogEvent.{LogEvent}
use Rattle.bucket_api.specs.Operation.{Operation}
use Rattle.history_spec.proofs.Walking.{IsWalk, IsWalk-walked, Walked, Walked-walks}
use Rattle.history_spec.specs.Account.{Item, looked, made, moment_of, own_moments_of, own_of, recalled}
use Rattle.history_spec.specs.Fits.{HasWalked, MayTell}
use Rattle.history_spec.specs.JournalState.{OpenCall}
use Rattle.history_spec.specs.Observing.{observed_at, seen_by}
use Rattle.mount_kept.specs.Items.{unflagged}
use Rattle.mount_rules.specs.Plans.{Plan, plan_after}

moment_unflagged : (item : Item) → moment_of (unflagged item) ≡ moment_of item
moment_unflagged (looked moment kept) = refl
moment_unflagged (recalled moment) = refl
moment_unflagged (made moment) = refl

own_unflagged : (item : Item) → own_of (unflagged item) ≡ own_of item
own_unflagged (looked moment kept) = refl
own_unflagged (recalled moment) = refl
own_unflagged (made moment) = refl

may_unflagged : (o : OpenCall) (op : Operation) (item : Item) → MayTell o op item → MayTell o op (unflagged item)
may_unflagged o op (looked moment kept) may = may
may_unflagged o op (recalled moment) may = may
may_unflagged o op (made moment) may = may

may_flagged : (o : OpenCall) (op : Operation) (item : Item) → MayTell o op (unflagged item) → MayTell o op item
may_flagged o op (looked moment kept) may = may
may_flagged o op (recalled moment) may = may
may_flagged o op (made moment) may = may

own_all : (items : List Item) → own_moments_of (map unflagged items) ≡ own_moments_of items
own_all [] = refl
own_all (item ∷ items) = ap (λ m. cons_option m (own_moments_of (map unflagged items))) (own_unflagged item) ∙ ap (cons_option (own_of item)) (own_all items)

module _ (start : BucketState) (log : List LogEvent) where
  seen_all : (items : List Item) → seen_by start log (map unflagged items) ≡ seen_by start log items
  seen_all [] = refl
  seen_all (item ∷ items) =
      ap (λ m. cons_option (observed_at start log m) (seen_by start log (map unflagged items))) (moment_unflagged item) ∙ ap (cons_option (observed_at start log (moment_of item))) (seen_all items)

  -- the same was seen
  pub seen_flagged : (items told : List Item) → map unflagged told ≡ map unflagged items → seen_by start log told ≡ seen_by start log items
  seen_flagged items told same = sym (seen_all told) ∙ (ap (seen_by start log) same ∙ seen_all items)

  module _ (o : OpenCall) where
    walked_unflagged : (plan : Plan) (items : List Item) → Walked start log o plan items → Walked start log o plan (map unflagged items)
    walked_unflagged plan [] walked = tt
    walked_unflagged plan (item ∷ items) walked = (
      walked.0,
      ap (observed_at start log) (moment_unflagged item) ∙ walked.1,
      walked.2,
      may_unflagged o walked.0.op item walked.3,
      walked_unflagged (plan_after plan walked.0.answer) items walked.4,
    )

    walked_flagged : (plan : Plan) (items : List Item) → Walked start log o plan (map unflagged items) → Walked start log o plan items
    walked_flagged plan [] walked = tt
    walked_flagged plan (item ∷ items) walked = (
      walked.0,
      ap (observed_at start log) (sym (moment_unflagged item)) ∙ walked.1,
      walked.2,
      may_flagged o walked.0.op item walked.3,
      walked_flagged (plan_after plan walked.0.answer) items walked.4,
    )

    within_unflagged : (front : ℕ) (items : List Item) → AllByRecursion (λ i. moment_of i ≤ front) items → AllByRecursion (λ i. moment_of i ≤ front) (map unflagged items)
    within_unflagged front [] within = tt
    within_unflagged front (item ∷ items) within = (subst (λ m. m ≤ front) (sym (moment_unflagged item)) within.0, within_unflagged front items within.1)

    within_flagged : (front : ℕ) (items : List Item) → AllByRecursion (λ i. moment_of i ≤ front) (map unflagged items) → AllByRecursion (λ i. moment_of i ≤ front) items
    within_flagged front [] within = tt
    within_flagged front (item ∷ items) within = (subst (λ m. m ≤ front) (moment_unflagged item) within.0, within_flagged front items within.1)

    -- it has walked so with these flags too
    pub walk_flagged : (plan : Plan) (front : ℕ) (items told : List Item) → map unflagged told ≡ map unflagged items → HasWalked start log plan o front items → HasWalked start log plan o front told
    walk_flagged plan front items told same walk = record {
      told = whole.told;
      within = within_flagged front told (subst (AllByRecursion (λ i. moment_of i ≤ front)) (sym same) (within_unflagged front items walk.within));
      walked = whole.walked;
      own = sym (own_all told) ∙ (ap own_moments_of same ∙ (own_all items ∙ walk.own));
    }
      where
        whole : IsWalk start log o plan told
        whole = IsWalk-walked start log o plan told
            (walked_flagged plan told (subst (Walked start log o plan) (sym same) (walked_unflagged plan items (Walked-walks start log o plan items walk.told walk.walked))))
