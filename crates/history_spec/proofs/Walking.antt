-- The walk of a call, item by item.
use Rattle.std.proofs.Common.{◌≡◌, ℕ, suc, ◌≤◌, List, [], ◌∷◌, take, length, Some, None, refl, sym, ap, subst, ◌∙◌, arith}
use Rattle.std.specs.Prelude.{Option}
use Rattle.std.specs.List.{AllByRecursion, cons_option}
use Rattle.bucket_api.specs.BucketState.{BucketState}
use Rattle.bucket_api.specs.LogEvent.{LogEvent}
use Rattle.history_spec.specs.Account.{Item, moment_of}
use Rattle.history_spec.specs.Fits.{MayTell, Supplies, items_left}
use Rattle.history_spec.specs.JournalState.{OpenCall}
use Rattle.history_spec.specs.Observing.{observed_at, seen_by}
use Rattle.history_spec.proofs.Agreeing.{observed_same}
use Rattle.mount_model.specs.Observing.{Observed}
use Rattle.mount_rules.specs.Plans.{Allows, Plan, Walks, plan_after}

module _ (start : BucketState) (log : List LogEvent) (o : OpenCall) where
  -- each item tells of an operation that the step allows to which the items before it led
  abbrev pub Walked : Plan → List Item → Type 0
  Walked plan [] = Unit {0}
  Walked plan (item ∷ items) =
      (seen : Observed) × (observed_at start log (moment_of item) ≡ Some seen) × Allows (plan []) seen.op × MayTell o seen.op item
      × Walked (plan_after plan seen.answer) items

  seen_few : (items : List Item) → length (seen_by start log items) ≤ length items
  seen_few [] = omega arith
  seen_few (item ∷ items) = by (observed_at start log (moment_of item)) (seen_few items)
    where
      by : (seen : Option Observed) → length (seen_by start log items) ≤ length items → length (cons_option seen (seen_by start log items)) ≤ length (item ∷ items)
      by None few = omega arith
      by (Some seen) few = omega arith

  pub Walked-walks : (plan : Plan) (items : List Item) → length (seen_by start log items) ≡ length items
      → Walks (Supplies start log o) items_left plan items (seen_by start log items) → Walked plan items
  Walked-walks plan [] told walked = tt
  Walked-walks plan (item ∷ items) told walked = by (observed_at start log (moment_of item)) refl told walked (λ p. Walked-walks p items)
    where
      by : (seen : Option Observed) → observed_at start log (moment_of item) ≡ seen
          → length (cons_option seen (seen_by start log items)) ≡ length (item ∷ items)
          → Walks (Supplies start log o) items_left plan (item ∷ items) (cons_option seen (seen_by start log items))
          → ((p : Plan) → length (seen_by start log items) ≡ length items → Walks (Supplies start log o) items_left p items (seen_by start log items) → Walked p items)
          → Walked plan (item ∷ items)
      by None is told walked later = absurd (let few : length (seen_by start log items) ≤ length items = seen_few items in omega arith)
      by (Some seen) is told walked later = (seen, is, walked.0.1, walked.0.2, later (plan_after plan seen.answer) (omega arith) walked.1)

  pub record IsWalk (plan : Plan) (items : List Item) : Type 0 where
    pub told : length (seen_by start log items) ≡ length items
    pub walked : Walks (Supplies start log o) items_left plan items (seen_by start log items)

  pub IsWalk-walked : (plan : Plan) (items : List Item) → Walked plan items → IsWalk plan items
  IsWalk-walked plan [] walked = record { told = refl; walked = tt }
  IsWalk-walked plan (item ∷ items) walked = with_first walked.0 walked.1 walked.2 walked.3 (IsWalk-walked (plan_after plan walked.0.answer) items walked.4)
    where
      with_first : (seen : Observed) → observed_at start log (moment_of item) ≡ Some seen → Allows (plan []) seen.op → MayTell o seen.op item
          → IsWalk (plan_after plan seen.answer) items → IsWalk plan (item ∷ items)
      with_first seen is allowed may later = record {
        told = ap (λ s. length (cons_option s (seen_by start log items))) is ∙ ap suc later.told;
        walked = subst (λ s. Walks (Supplies start log o) items_left plan (item ∷ items) (cons_option s (seen_by start log items))) (sym is) ((is, allowed, may), later.walked);
      }

-- over logs that are the same up to a front
module _ (start : BucketState) (one other : List LogEvent) (upto : ℕ) (same : take upto one ≡ take upto other) where
  pub walked_same : (o : OpenCall) (plan : Plan) (items : List Item) → AllByRecursion (λ item. moment_of item ≤ upto) items → Walked start one o plan items → Walked start other o plan items
  walked_same o plan [] within walked = tt
  walked_same o plan (item ∷ items) within walked = (
    walked.0,
    sym (observed_same start one other upto same (moment_of item) within.0) ∙ walked.1,
    walked.2,
    walked.3,
    walked_same o (plan_after plan walked.0.answer) items within.1 walked.4,
  )
