-- The flags of what was looked up make no difference to what a call walked along.
use Rattle.std.proofs.Common.{◌≡◌, ℕ, ◌≤◌, List, [], ◌∷◌, map, refl, sym, ap, subst, ◌∙◌}
use Rattle.std.specs.List.{AllByRecursion, cons_option}
use Rattle.bucket_api.specs.BucketState.{BucketState}
use Rattle.bucket_api.specs.LogEvent.{LogEvent}
use Rattle.bucket_api.specs.Operation.{Operation}
use Rattle.core_spec.specs.Tickets.{unflagged}
use Rattle.history_spec.proofs.Walking.{IsWalk, IsWalk-walked, Walked, Walked-walks}
use Rattle.history_spec.specs.Account.{Item, looked, made, moment_of, own_moments_of, own_of, recalled}
use Rattle.history_spec.specs.Fits.{HasWalked, MayTell}
use Rattle.history_spec.specs.JournalState.{OpenCall}
use Rattle.history_spec.specs.Observing.{observed_at, seen_by}
use Rattle.mount_rules.specs.Plans.{Plan, plan_after}

pub moment_unflagged : (item : Item) → moment_of (unflagged item) ≡ moment_of item
moment_unflagged (looked moment kept) = refl
moment_unflagged (recalled moment) = refl
moment_unflagged (made moment) = refl

own_unflagged : (item : Item) → own_of (unflagged item) ≡ own_of item
own_unflagged (looked moment kept) = refl
own_unflagged (recalled moment) = refl
own_unflagged (made moment) = refl

owns_unflagged : (items : List Item) → own_moments_of (map unflagged items) ≡ own_moments_of items
owns_unflagged [] = refl
owns_unflagged (item ∷ items) =
    ap (λ own. cons_option own (own_moments_of (map unflagged items))) (own_unflagged item) ∙ ap (cons_option (own_of item)) (owns_unflagged items)

within_unflagged : (front : ℕ) (items : List Item) → AllByRecursion (λ item. moment_of item ≤ front) items → AllByRecursion (λ item. moment_of item ≤ front) (map unflagged items)
within_unflagged front [] within = tt
within_unflagged front (item ∷ items) within = (subst (λ m. m ≤ front) (sym (moment_unflagged item)) within.0, within_unflagged front items within.1)

within_flagged : (front : ℕ) (items : List Item) → AllByRecursion (λ item. moment_of item ≤ front) (map unflagged items) → AllByRecursion (λ item. moment_of item ≤ front) items
within_flagged front [] within = tt
within_flagged front (item ∷ items) within = (subst (λ m. m ≤ front) (moment_unflagged item) within.0, within_flagged front items within.1)

module _ (start : BucketState) (log : List LogEvent) where
  pub seen_unflagged : (items : List Item) → seen_by start log (map unflagged items) ≡ seen_by start log items
  seen_unflagged [] = refl
  seen_unflagged (item ∷ items) =
      ap (λ m. cons_option (observed_at start log m) (seen_by start log (map unflagged items))) (moment_unflagged item)
      ∙ ap (cons_option (observed_at start log (moment_of item))) (seen_unflagged items)

  module _ (o : OpenCall) where
    tells_unflagged : (op : Operation) (item : Item) → MayTell o op item → MayTell o op (unflagged item)
    tells_unflagged op (looked moment kept) may = may
    tells_unflagged op (recalled moment) may = may
    tells_unflagged op (made moment) may = may

    tells_flagged : (op : Operation) (item : Item) → MayTell o op (unflagged item) → MayTell o op item
    tells_flagged op (looked moment kept) may = may
    tells_flagged op (recalled moment) may = may
    tells_flagged op (made moment) may = may

    walked_unflagged : (plan : Plan) (items : List Item) → Walked start log o plan items → Walked start log o plan (map unflagged items)
    walked_unflagged plan [] walked = tt
    walked_unflagged plan (item ∷ items) walked = (
      walked.0,
      ap (observed_at start log) (moment_unflagged item) ∙ walked.1,
      walked.2,
      tells_unflagged walked.0.op item walked.3,
      walked_unflagged (plan_after plan walked.0.answer) items walked.4,
    )

    walked_flagged : (plan : Plan) (items : List Item) → Walked start log o plan (map unflagged items) → Walked start log o plan items
    walked_flagged plan [] walked = tt
    walked_flagged plan (item ∷ items) walked = (
      walked.0,
      sym (ap (observed_at start log) (moment_unflagged item)) ∙ walked.1,
      walked.2,
      tells_flagged walked.0.op item walked.3,
      walked_flagged (plan_after plan walked.0.answer) items walked.4,
    )

    walk_unflagged : (plan : Plan) (front : ℕ) (items : List Item) → HasWalked start log plan o front items → HasWalked start log plan o front (map unflagged items)
    walk_unflagged plan front items walk = record {
      told = is.told;
      within = within_unflagged front items walk.within;
      walked = is.walked;
      own = owns_unflagged items ∙ walk.own;
    }
      where
        is : IsWalk start log o plan (map unflagged items)
        is = IsWalk-walked start log o plan (map unflagged items) (walked_unflagged plan items (Walked-walks start log o plan items walk.told walk.walked))

    walk_flagged : (plan : Plan) (front : ℕ) (items : List Item) → HasWalked start log plan o front (map unflagged items) → HasWalked start log plan o front items
    walk_flagged plan front items walk = record {
      told = is.told;
      within = within_flagged front items walk.within;
      walked = is.walked;
      own = sym (owns_unflagged items) ∙ walk.own;
    }
      where
        is : IsWalk start log o plan items
        is = IsWalk-walked start log o plan items (walked_flagged plan items (Walked-walks start log o plan (map unflagged items) walk.told walk.walked))

    -- with other flags it has walked the same way
    pub walk_by_flags : (plan : Plan) (front : ℕ) (items flagged : List Item) → map unflagged flagged ≡ map unflagged items → HasWalked start log plan o front items
        → HasWalked start log plan o front flagged
    walk_by_flags plan front items flagged same walk =
        walk_flagged plan front flagged (subst (HasWalked start log plan o front) (sym same) (walk_unflagged plan front items walk))

  pub seen_by_flags : (items flagged : List Item) → map unflagged flagged ≡ map unflagged items → seen_by start log flagged ≡ seen_by start log items
  seen_by_flags items flagged same = sym (seen_unflagged flagged) ∙ (ap (seen_by start log) same ∙ seen_unflagged items)
