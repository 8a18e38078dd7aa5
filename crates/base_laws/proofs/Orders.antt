-- Keys in order, and texts in the order of their bytes.
use Rattle.std.proofs.Common.{◌≡◌, refl, subst, ◌∙◌, ℕ, List, ◌∷◌, true}
use Rattle.std.proofs.lemmas.Map.Lookups.{exact_bytes}
use Rattle.std.specs.Cmp.Lexicographic.{slice_cmp, nat_list_cmp_total}
use Rattle.std.specs.List.{AllByRecursion}
use Rattle.std.specs.List.Sorted.{IsStrictlySortedBy}
use Rattle.std.specs.Ordering.{is_le, nat_cmp}
use Rattle.std.specs.declared.cmp.Ordering.{Ordering}
use Rattle.std.specs.declared.cmp.Ordering.TheVariants.{Less, Equal, Greater}

-- a list of keys in order, from its first key and the others
pub sorted_cons : {K : Type 0} (cmp : K → K → Ordering) (k : K) (ks : List K)
    → AllByRecursion (λ x. cmp k x ≡ Less) ks → IsStrictlySortedBy cmp ks → IsStrictlySortedBy cmp (k ∷ ks)
unfolding IsStrictlySortedBy
sorted_cons cmp k ks head tail = (head, tail)

-- what is below a text that is not above another is below that one
pub less_le : (x y z : List ℕ) → slice_cmp nat_cmp x y ≡ Less → is_le (slice_cmp nat_cmp y z) ≡ true → slice_cmp nat_cmp x z ≡ Less
less_le x y z less le = by (slice_cmp nat_cmp y z) refl le
  where
    by : (o : Ordering) → slice_cmp nat_cmp y z ≡ o → is_le o ≡ true → slice_cmp nat_cmp x z ≡ Less
    by Less e le = nat_list_cmp_total.trans x y z less e
    by Equal e le = subst (λ w. slice_cmp nat_cmp x w ≡ Less) (exact_bytes y z e) less
    by Greater e le = cc

-- what is above a text that is not below another is above that one
pub le_less : (x y z : List ℕ) → is_le (slice_cmp nat_cmp x y) ≡ true → slice_cmp nat_cmp y z ≡ Less → slice_cmp nat_cmp x z ≡ Less
le_less x y z le less = by (slice_cmp nat_cmp x y) refl le
  where
    by : (o : Ordering) → slice_cmp nat_cmp x y ≡ o → is_le o ≡ true → slice_cmp nat_cmp x z ≡ Less
    by Less e le = nat_list_cmp_total.trans x y z e less
    by Equal e le = nat_list_cmp_total.congr x y z e ∙ less
    by Greater e le = cc
