-- The order of texts, and lists in that order.
use Rattle.std.proofs.Common.{◌≡◌, ap, ◌∙◌, ℕ, List, [], ◌∷◌}
use Rattle.std.specs.declared.cmp.Ordering.TheVariants.{Less, Equal, Greater}
use Rattle.std.specs.Ordering.{ordering_reverse}
use Rattle.std.specs.Cmp.Lexicographic.{nat_list_cmp_total}
use Rattle.std.specs.List.{AllByRecursion}
use Rattle.std.proofs.lemmas.Map.Lookups.{exact_bytes}
use Rattle.bucket_api.specs.Metadata.{text_cmp}

-- texts that the order does not tell apart are the same
pub text_same : (x y : List ℕ) → text_cmp x y ≡ Equal → x ≡ y
text_same x y e = exact_bytes x y e

-- a text that is above another has it below itself
pub text_below : (x y : List ℕ) → text_cmp x y ≡ Greater → text_cmp y x ≡ Less
text_below x y e = nat_list_cmp_total.antisymm y x ∙ ap ordering_reverse e

-- a text above another has it below itself, the other way round
pub text_above : (x y : List ℕ) → text_cmp x y ≡ Less → text_cmp y x ≡ Greater
text_above x y e = nat_list_cmp_total.antisymm y x ∙ ap ordering_reverse e

-- a text is like another the other way round too
pub text_alike : (x y : List ℕ) → text_cmp x y ≡ Equal → text_cmp y x ≡ Equal
text_alike x y e = nat_list_cmp_total.antisymm y x ∙ ap ordering_reverse e

-- what is above a text is above each text below it
pub all_above : (k x : List ℕ) (ks : List (List ℕ)) → text_cmp k x ≡ Less → AllByRecursion (λ y. text_cmp x y ≡ Less) ks → AllByRecursion (λ y. text_cmp k y ≡ Less) ks
all_above k x [] below all = tt
all_above k x (y ∷ ys) below all = (nat_list_cmp_total.trans k x y below all.0, all_above k x ys below all.1)
