-- Pairs added to pairs, as a merge of two rows whose keys rise.
use Rattle.std.proofs.Common.{◌≡◌, refl, ap, ◌∙◌, ℕ, List, [], ◌∷◌}
use Rattle.std.specs.Prelude.{map}
use Rattle.std.specs.declared.cmp.Ordering.TheVariants.{Less, Equal, Greater}
use Rattle.std.specs.Ordering.{match_ordering}
use Rattle.std.specs.List.{AllByRecursion}
use Rattle.std.proofs.lemmas.Map.Keys.{sorted_head, sorted_tail}
use Rattle.bucket_api.specs.declared.objects.Pair.{Pair}
use Rattle.bucket_api.specs.Metadata.{text_cmp, KeysRise}
use Rattle.bucket_api.specs.BucketStep.{with_pair, with_pairs}
use Rattle.bucket_api.proofs.TextOrder.{text_above, text_below, text_alike, all_above}

abbrev keys : List Pair → List (List ℕ)
keys pairs = map (λ p. p.key) pairs

-- a first pair whose key is below all that are added stays the first
with_pairs_below : (r : Pair) (rs qs : List Pair) → AllByRecursion (λ y. text_cmp r.key y ≡ Less) (keys qs) → with_pairs (r ∷ rs) qs ≡ r ∷ with_pairs rs qs
with_pairs_below r rs [] below = refl
with_pairs_below r rs (q ∷ qs) below =
    ap (λ o. with_pairs (match_ordering o (q ∷ r ∷ rs) (q ∷ rs) (r ∷ with_pair rs q)) qs) (text_above r.key q.key below.0)
    ∙ with_pairs_below r (with_pair rs q) qs below.1

-- a present pair below the first that is added comes first
pub with_pairs_less : (r q : Pair) (rs qs : List Pair) → KeysRise (q ∷ qs) → text_cmp r.key q.key ≡ Less → with_pairs (r ∷ rs) (q ∷ qs) ≡ r ∷ with_pairs rs (q ∷ qs)
with_pairs_less r q rs qs rise below = with_pairs_below r rs (q ∷ qs) (below, all_above r.key q.key (keys qs) below (sorted_head text_cmp q.key (keys qs) rise))

-- an added pair takes the place of the present one of its key
pub with_pairs_equal : (r q : Pair) (rs qs : List Pair) → KeysRise (q ∷ qs) → text_cmp r.key q.key ≡ Equal → with_pairs (r ∷ rs) (q ∷ qs) ≡ q ∷ with_pairs rs qs
with_pairs_equal r q rs qs rise same =
    ap (λ o. with_pairs (match_ordering o (q ∷ r ∷ rs) (q ∷ rs) (r ∷ with_pair rs q)) qs) (text_alike r.key q.key same)
    ∙ with_pairs_below q rs qs (sorted_head text_cmp q.key (keys qs) rise)

-- an added pair below the first that is present comes first
pub with_pairs_greater : (r q : Pair) (rs qs : List Pair) → KeysRise (q ∷ qs) → text_cmp r.key q.key ≡ Greater → with_pairs (r ∷ rs) (q ∷ qs) ≡ q ∷ with_pairs (r ∷ rs) qs
with_pairs_greater r q rs qs rise above =
    ap (λ o. with_pairs (match_ordering o (q ∷ r ∷ rs) (q ∷ rs) (r ∷ with_pair rs q)) qs) (text_below r.key q.key above)
    ∙ with_pairs_below q (r ∷ rs) qs (sorted_head text_cmp q.key (keys qs) rise)

-- pairs added to none
pub with_pairs_none : (qs : List Pair) → KeysRise qs → with_pairs [] qs ≡ qs
with_pairs_none [] rise = refl
with_pairs_none (q ∷ qs) rise = with_pairs_below q [] qs (sorted_head text_cmp q.key (keys qs) rise) ∙ ap (λ ps. q ∷ ps) (with_pairs_none qs (sorted_tail text_cmp q.key (keys qs) rise))

-- the keys of the later pairs rise
pub KeysRise-tail : (q : Pair) (qs : List Pair) → KeysRise (q ∷ qs) → KeysRise qs
KeysRise-tail q qs rise = sorted_tail text_cmp q.key (keys qs) rise
