-- Lists that grow at their end.
use Rattle.std.proofs.Common.{◌≡◌, sym, ap, ◌∙◌, subst, ℕ, ◌+◌, ◌≤◌, List, [], ◌∷◌, ◌++◌, length, append_assoc, arith}
use Rattle.std.proofs.lemmas.List.{append-nil}
use Rattle.std.proofs.lemmas.List.Sums.{sum_by-append}
use Rattle.std.specs.Prelude.{map, sum_by}
use Rattle.scenario.specs.Parts.{Lane}
use Rattle.scenario.specs.Checks.{calls_of, items_of, counts_of, items_in, spot_after}
use Rattle.scenario.specs.Format.{most_items}
use Rattle.scenario.specs.Lawful.{EachAfter, IsLane, AreLanes, IsPhase, ArePhases, StaysCounted}

-- what holds of each item, and of one more with all of them before it, holds of each
after_all : {A : Type 0} (P : List A → A → Type 0) (before xs : List A) (x : A) → EachAfter P before xs → P (before ++ xs) x → EachAfter P before (xs ++ x ∷ [])
after_all P before [] x each is = (subst (λ b. P b x) (append-nil before) is, tt)
after_all P before (y ∷ ys) x each is = (each.0, after_all P (before ++ y ∷ []) ys x each.1 (subst (λ b. P b x) (sym (append_assoc before (y ∷ []) ys)) is))

pub each_push : {A : Type 0} (P : List A → A → Type 0) (xs : List A) (x : A) → EachAfter P [] xs → P xs x → EachAfter P [] (xs ++ x ∷ [])
each_push P xs x each is = after_all P [] xs x each is

-- one more phase has its own counts and items beside those before
pub counts_of_push : (phases : List (List Lane)) (lanes : List Lane) → counts_of (phases ++ lanes ∷ []) ≡ counts_of phases ++ map calls_of lanes
counts_of_push [] lanes = append-nil (map calls_of lanes)
counts_of_push (p ∷ ps) lanes = ap (λ cs. map calls_of p ++ cs) (counts_of_push ps lanes) ∙ sym (append_assoc (map calls_of p) (counts_of ps) (map calls_of lanes))

pub items_in_push : (phases : List (List Lane)) (lanes : List Lane) → items_in (phases ++ lanes ∷ []) ≡ items_in phases + sum_by items_of lanes
items_in_push [] lanes = omega arith
items_in_push (p ∷ ps) lanes = let later = items_in_push ps lanes in omega (arith, later)

-- one more lane
pub lanes_next : (counts : List ℕ) (first items more : ℕ) (lanes later : List Lane) (l : Lane) → later ≡ lanes ++ l ∷ [] → more ≡ items + items_of l
    → (items ≡ first + sum_by items_of lanes) × (items ≤ most_items) × AreLanes counts first lanes → IsLane (spot_after counts first lanes) l → StaysCounted (spot_after counts first lanes) (items_of l)
    → (more ≡ first + sum_by items_of later) × (more ≤ most_items) × AreLanes counts first later
lanes_next counts first items more lanes later l is more_is fits good counted =
    let sum = sum_by-append items_of lanes (l ∷ []) in
    let few = counted (subst (λ n. n ≤ most_items) fits.0 fits.1) in
    let here = fits.0 in
    let whole : more ≡ first + sum_by items_of (lanes ++ l ∷ []) = omega (arith, sum, here, more_is) in (
      subst (λ ls. more ≡ first + sum_by items_of ls) (sym is) whole,
      omega (arith, few, here, more_is),
      subst (AreLanes counts first) (sym is) (each_push (λ beside. IsLane (spot_after counts first beside)) lanes l fits.2 good),
    )

-- one more phase
pub phases_next : (phases later : List (List Lane)) (lanes : List Lane) (counts more_counts : List ℕ) (items more : ℕ) → later ≡ phases ++ lanes ∷ [] → more_counts ≡ counts ++ map calls_of lanes
    → (counts ≡ counts_of phases) × (items ≡ items_in phases) × (items ≤ most_items) × ArePhases phases
    → (more ≡ items + sum_by items_of lanes) × (more ≤ most_items) × AreLanes counts items lanes → (1 ≤ length lanes) × (length lanes ≤ 64)
    → (more_counts ≡ counts_of later) × (more ≡ items_in later) × (more ≤ most_items) × ArePhases later
phases_next phases later lanes counts more_counts items more is counted fits good few =
    let here = fits.1 in
    let sum = good.0 in
    let now = items_in_push phases lanes in
    let kept : AreLanes (counts_of phases) (items_in phases) lanes = subst (λ n. AreLanes (counts_of phases) n lanes) fits.1 (subst (λ cs. AreLanes cs items lanes) fits.0 good.2) in
    let whole : more ≡ items_in (phases ++ lanes ∷ []) = omega (arith, here, sum, now) in (
      counted ∙ ap (λ cs. cs ++ map calls_of lanes) fits.0 ∙ sym (counts_of_push phases lanes) ∙ ap counts_of (sym is),
      whole ∙ ap items_in (sym is),
      good.1,
      subst ArePhases (sym is) (each_push IsPhase phases lanes fits.3 (record { some = few.0; few = few.1; each = kept })),
    )
