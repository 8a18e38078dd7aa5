-- The keys of a map's entries, as those of pairs.
use Rattle.std.proofs.Common.{◌≡◌, sym, ap, ◌∙◌, subst, ℕ, List, [], ◌∷◌, ◌++◌}
use Rattle.std.proofs.lemmas.List.{append-nil}
use Rattle.std.specs.Prelude.{map, string_bytes, String}
use Rattle.std.specs.declared.alloc.Global.{Global}
use Rattle.std.specs.declared.cmp.Ordering.TheVariants.{Less}
use Rattle.std.specs.List.{AllByRecursion}
use Rattle.std.specs.List.Sorted.{IsStrictlySortedBy}
use Rattle.std.specs.Map.{keys_of}
use Rattle.std.specs.String.{string_cmp}
use Rattle.serde_json.specs.declared.value.Value.{Value}
use Rattle.bucket_api.specs.declared.objects.Pair.{Pair}
use Rattle.bucket_api.specs.Metadata.{text_cmp, KeysRise}

abbrev pub keys_in : List (String Global × Value) → List (List ℕ)
keys_in es = map (λ e. string_bytes e.0) es

abbrev pub keys_of_pairs : List Pair → List (List ℕ)
keys_of_pairs pairs = map (λ p. p.key) pairs

below_all : (k : String Global) (es : List (String Global × Value)) → AllByRecursion (λ y. string_cmp k y ≡ Less) (keys_of es) → AllByRecursion (λ y. text_cmp (string_bytes k) y ≡ Less) (keys_in es)
below_all k [] all = tt
below_all k (e ∷ es) all = (all.0, below_all k es all.1)

-- the keys of a map rise by their bytes
pub keys_in-rise : (es : List (String Global × Value)) → IsStrictlySortedBy string_cmp (keys_of es) → IsStrictlySortedBy text_cmp (keys_in es)
unfolding IsStrictlySortedBy
keys_in-rise [] sorted = sorted
keys_in-rise (e ∷ es) sorted = (below_all e.0 es sorted.0, keys_in-rise es sorted.1)

-- pairs with the keys of a map are in order
pub pairs_rise : (pairs : List Pair) (es : List (String Global × Value)) → keys_of_pairs pairs ≡ keys_in es → IsStrictlySortedBy string_cmp (keys_of es) → KeysRise pairs
pairs_rise pairs es same sorted = subst (IsStrictlySortedBy text_cmp) (sym same) (keys_in-rise es sorted)

none_rise : KeysRise []
unfolding IsStrictlySortedBy
none_rise = tt

-- no pairs are in order
pub rise_of_none : (pairs : List Pair) → pairs ≡ [] → KeysRise pairs
rise_of_none pairs none = subst KeysRise (sym none) none_rise

-- pairs that have taken in all keys are in order
pub pairs_done : (found pairs : List Pair) (all left : List (String Global × Value)) → pairs ≡ found → left ≡ [] → keys_of_pairs found ++ keys_in left ≡ keys_in all → IsStrictlySortedBy string_cmp (keys_of all) → KeysRise pairs
pairs_done found pairs all left is none so_far sorted =
    let same : keys_of_pairs found ≡ keys_in all = sym (append-nil (keys_of_pairs found)) ∙ (ap (λ es. keys_of_pairs found ++ keys_in es) (sym none) ∙ so_far) in
    pairs_rise pairs all (ap keys_of_pairs is ∙ same) sorted
