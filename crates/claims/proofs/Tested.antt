-- The test by tallies finds a conflict exactly where a wanted claim conflicts with one that is held.
use Rattle.std.proofs.Common.{◌≡◌, ℕ, ◌+◌, Bool, true, false, cond, ◌||◌, nat_lt, List, [], ◌∷◌, refl, sym, ap, ◌∙◌, arith}
use Rattle.std.proofs.lemmas.Bool.Decides.{nat_tests}
use Rattle.std.specs.List.{list_any}
use Rattle.claim_spec.specs.declared.claim.Claim.{Claim}
use Rattle.claim_spec.specs.declared.claim.ClaimKey.{ClaimKey}
use Rattle.claim_spec.specs.Conflicts.{same_key, conflict, any_conflict}
use Rattle.claims.specs.declared.tally.Tally.{Tally}
use Rattle.claims.specs.TallyWords.{no_tally, one_tally, plus, tally_conflict}
use Rattle.claims.specs.Tallies.{tally_by, tally_of, tally_of_all}
use Rattle.claims.proofs.Totals.{list_any-swap, list_any-same}

above_sum : (a b : ℕ) → nat_lt 0 (a + b) ≡ (nat_lt 0 a || nat_lt 0 b)
above_sum a b = by (nat_lt 0 a) refl
  where
    by : (t : Bool) → nat_lt 0 a ≡ t → nat_lt 0 (a + b) ≡ (t || nat_lt 0 b)
    by true e = grind (arith, nat_tests)
    by false e = grind (arith, nat_tests)

-- a claim conflicts with those of both where it does with those of one
conflict-plus : (t u : Tally) (exclusive : Bool) → tally_conflict (plus t u) exclusive ≡ (tally_conflict t exclusive || tally_conflict u exclusive)
conflict-plus t u true = above_sum t.claims u.claims
conflict-plus t u false = above_sum t.exclusive u.exclusive

conflict-none : (exclusive : Bool) → false ≡ tally_conflict no_tally exclusive
conflict-none true = refl
conflict-none false = refl

conflict-one : (mine other : Bool) → cond mine true other ≡ tally_conflict (one_tally other) mine
conflict-one true other = refl
conflict-one false true = refl
conflict-one false false = refl

-- with one claim
conflict-by : (claim other : Claim) → conflict claim other ≡ tally_conflict (tally_by claim.key other) claim.exclusive
conflict-by claim other =
    elim (same_key claim.key other.key) as (λ b. cond b (cond claim.exclusive true other.exclusive) false ≡ tally_conflict (cond b (one_tally other.exclusive) no_tally) claim.exclusive) [
      | true ↦ conflict-one claim.exclusive other.exclusive
      | false ↦ conflict-none claim.exclusive
    ]

-- with one of a list
conflict-of : (claim : Claim) (claims : List Claim) → list_any (conflict claim) claims ≡ tally_conflict (tally_of claim.key claims) claim.exclusive
conflict-of claim [] = conflict-none claim.exclusive
conflict-of claim (other ∷ claims) =
    (λ i. conflict-by claim other i || conflict-of claim claims i) ∙ sym (conflict-plus (tally_by claim.key other) (tally_of claim.key claims) claim.exclusive)

-- with one of many lists
conflict-of_all : (claim : Claim) (lists : List (List Claim)) → list_any (λ claims. list_any (conflict claim) claims) lists ≡ tally_conflict (tally_of_all claim.key lists) claim.exclusive
conflict-of_all claim [] = conflict-none claim.exclusive
conflict-of_all claim (claims ∷ lists) =
    (λ i. conflict-of claim claims i || conflict-of_all claim lists i) ∙ sym (conflict-plus (tally_of claim.key claims) (tally_of_all claim.key lists) claim.exclusive)

pub tested : (at : ClaimKey → Tally) (wanted : List Claim) (lists : List (List Claim)) → ((key : ClaimKey) → at key ≡ tally_of_all key lists)
    → list_any (λ claim. tally_conflict (at claim.key) claim.exclusive) wanted ≡ list_any (any_conflict wanted) lists
tested at wanted lists is =
    list_any-same (λ claim. tally_conflict (at claim.key) claim.exclusive) (λ claim. list_any (λ claims. list_any (conflict claim) claims) lists)
    (λ claim. ap (λ t. tally_conflict t claim.exclusive) (is claim.key) ∙ sym (conflict-of_all claim lists)) wanted
    ∙ list_any-swap (λ claim claims. list_any (conflict claim) claims) wanted lists
