-- What the lanes of all phases bring, lane by lane.
use Rattle.std.proofs.Common.{◌≡◌, ◌≢◌, ◌<◌, ℕ, zero, suc, ◌+◌, true, false, cond, List, [], ◌∷◌, ◌++◌, length, map, slice_get, Option, Some, None, refl, sym, ap, subst, ◌∙◌, ◌⊎◌, inl, inr, arith, append-nil}
use Rattle.std.proofs.lemmas.Bool.Decides.{eqb_tells}
use Rattle.std.proofs.lemmas.List.Elements.{filter_map-append}
use Rattle.std.specs.List.{filter_map, flat_map}
use Rattle.std.specs.Option.{option_map_or}
use Rattle.std.specs.Prelude.{if◌then◌else◌, ◌==◌}
use Rattle.history_spec.proofs.Lanes.{other_lane, same_lane}
use Rattle.legal_spec.proofs.Merging.{AllEmpty, IsAlone, merge_alone, merge_picked}
use Rattle.legal_spec.specs.Schedules.{InPhases, Move, brought, calls_of, lane_at, moves_of, numbered}
use Rattle.mount_model.specs.declared.gate.CallId.{CallId}
use Rattle.scenario.specs.Parts.{Lane}

-- the lane of a number, where the first lane has this one
abbrev lane_from : ℕ → List Lane → ℕ → Option Lane
lane_from first [] number = None
lane_from first (lane ∷ lanes) number = if first == number then Some lane else lane_from (first + 1) lanes number

abbrev calls_in : ℕ → Option Lane → List CallId
calls_in number found = option_map_or (calls_of number) found []

no_earlier : (number first : ℕ) (lanes : List Lane) → number < first → lane_from first lanes number ≡ None
no_earlier number first [] later = refl
no_earlier number first (lane ∷ lanes) later =
    ap (λ t. cond t (Some lane) (lane_from (first + 1) lanes number)) (other_lane first number (λ same. absurd (omega arith)))
    ∙ no_earlier number (first + 1) lanes (omega arith)

lane_from-at : (lanes : List Lane) (first position : ℕ) → lane_from first lanes (first + position) ≡ slice_get lanes position
lane_from-at [] first position = refl
lane_from-at (lane ∷ lanes) first zero =
    let same : first ≡ first + 0 = omega arith in ap (λ t. cond t (Some lane) (lane_from (first + 1) lanes (first + 0))) (same_lane first (first + 0) same)
lane_from-at (lane ∷ lanes) first (suc position) =
    let next : first + suc position ≡ first + 1 + position = omega arith in
    ap (λ t. cond t (Some lane) (lane_from (first + 1) lanes (first + suc position))) (other_lane first (first + suc position) (λ same. absurd (omega arith)))
    ∙ ap (lane_from (first + 1) lanes) next ∙ lane_from-at lanes (first + 1) position

lane_from-numbered : (lanes : List Lane) (number : ℕ) → lane_from 1 lanes number ≡ numbered lanes number
lane_from-numbered lanes zero = no_earlier 0 1 lanes (omega arith)
lane_from-numbered lanes (suc position) = let same : suc position ≡ 1 + position = omega arith in ap (lane_from 1 lanes) same ∙ lane_from-at lanes 1 position

calls_in-append : (number first : ℕ) (lanes more : List Lane)
    → calls_in number (lane_from first (lanes ++ more) number) ≡ calls_in number (lane_from first lanes number) ++ calls_in number (lane_from (first + length lanes) more number)
calls_in-append number first [] more = let same : first ≡ first + 0 = omega arith in ap (λ n. calls_in number (lane_from n more number)) same
calls_in-append number first (lane ∷ lanes) more = by (eqb_tells first number) (calls_in-append number (first + 1) lanes more)
  where
    by : (((first == number) ≡ true) × (first ≡ number)) ⊎ (((first == number) ≡ false) × (first ≢ number))
        → calls_in number (lane_from (first + 1) (lanes ++ more) number) ≡ calls_in number (lane_from (first + 1) lanes number) ++ calls_in number (lane_from (first + 1 + length lanes) more number)
        → calls_in number (cond (first == number) (Some lane) (lane_from (first + 1) (lanes ++ more) number))
        ≡ calls_in number (cond (first == number) (Some lane) (lane_from (first + 1) lanes number)) ++ calls_in number (lane_from (first + length (lane ∷ lanes)) more number)
    by (inl its) later =
        let same : first ≡ number = its.1 in
        ap (λ t. calls_in number (cond t (Some lane) (lane_from (first + 1) (lanes ++ more) number))) its.0
        ∙ sym (append-nil (calls_of number lane))
        ∙ ap (λ found. calls_of number lane ++ calls_in number found) (sym (no_earlier number (first + length (lane ∷ lanes)) more (omega arith)))
        ∙ ap (λ t. calls_in number (cond t (Some lane) (lane_from (first + 1) lanes number)) ++ calls_in number (lane_from (first + length (lane ∷ lanes)) more number)) (sym its.0)
    by (inr far) later =
        let next : first + 1 + length lanes ≡ first + length (lane ∷ lanes) = omega arith in
        ap (λ t. calls_in number (cond t (Some lane) (lane_from (first + 1) (lanes ++ more) number))) far.0
        ∙ later ∙ ap (λ n. calls_in number (lane_from (first + 1) lanes number) ++ calls_in number (lane_from n more number)) next
        ∙ ap (λ t. calls_in number (cond t (Some lane) (lane_from (first + 1) lanes number)) ++ calls_in number (lane_from (first + length (lane ∷ lanes)) more number)) (sym far.0)

-- what is picked of the moves of a lane is its calls, and nothing of the moves of other lanes
module _ (number : ℕ) (h : Move → Option CallId) (tells : (n : ℕ) (lane : Lane) → filter_map h (moves_of n lane) ≡ (if n == number then calls_of number lane else [])) where
  none_picked : (first : ℕ) (lanes : List Lane) → number < first → AllEmpty (map (filter_map h) (brought moves_of first lanes))
  none_picked first [] later = tt
  none_picked first (lane ∷ lanes) later = (
    tells first lane ∙ ap (λ t. cond t (calls_of number lane) []) (other_lane first number (λ same. absurd (omega arith))),
    none_picked (first + 1) lanes (omega arith),
  )

  picked_alone : (first : ℕ) (lanes : List Lane) → IsAlone (map (filter_map h) (brought moves_of first lanes)) (calls_in number (lane_from first lanes number))
  picked_alone first [] = refl
  picked_alone first (lane ∷ lanes) = by (eqb_tells first number) (picked_alone (first + 1) lanes)
    where
      by : (((first == number) ≡ true) × (first ≡ number)) ⊎ (((first == number) ≡ false) × (first ≢ number))
          → IsAlone (map (filter_map h) (brought moves_of (first + 1) lanes)) (calls_in number (lane_from (first + 1) lanes number))
          → IsAlone (map (filter_map h) (brought moves_of first (lane ∷ lanes))) (calls_in number (cond (first == number) (Some lane) (lane_from (first + 1) lanes number)))
      by (inl its) later =
          let same : first ≡ number = its.1 in
          inr (
            tells first lane ∙ ap (λ t. cond t (calls_of number lane) []) its.0
                ∙ ap (λ t. calls_in number (cond t (Some lane) (lane_from (first + 1) lanes number))) (sym its.0),
            none_picked (first + 1) lanes (omega arith),
          )
      by (inr far) later = inl (
        tells first lane ∙ ap (λ t. cond t (calls_of number lane) []) far.0,
        subst (λ t. IsAlone (map (filter_map h) (brought moves_of (first + 1) lanes)) (calls_in number (cond t (Some lane) (lane_from (first + 1) lanes number)))) (sym far.0) later,
      )

  picked_from : (first : ℕ) (phases : List (List Lane)) (moves : List Move) → InPhases moves_of first phases moves
      → filter_map h moves ≡ calls_in number (lane_from first (flat_map (λ lanes. lanes) phases) number)
  picked_from first [] moves none = ap (filter_map h) none
  picked_from first (lanes ∷ phases) moves phased =
      ap (filter_map h) phased.2 ∙ filter_map-append h phased.0 phased.1
      ∙ ap (λ calls. calls ++ filter_map h phased.1)
      (merge_alone (map (filter_map h) (brought moves_of first lanes)) (filter_map h phased.0) (calls_in number (lane_from first lanes number))
      (merge_picked h (brought moves_of first lanes) phased.0 phased.3) (picked_alone first lanes))
      ∙ ap (λ calls. calls_in number (lane_from first lanes number) ++ calls) (picked_from (first + length lanes) phases phased.1 phased.4)
      ∙ sym (calls_in-append number first lanes (flat_map (λ ls. ls) phases))

  pub picked : (phases : List (List Lane)) (moves : List Move) → InPhases moves_of 1 phases moves → filter_map h moves ≡ option_map_or (calls_of number) (lane_at phases number) []
  picked phases moves phased = picked_from 1 phases moves phased ∙ ap (calls_in number) (lane_from-numbered (flat_map (λ lanes. lanes) phases) number)
