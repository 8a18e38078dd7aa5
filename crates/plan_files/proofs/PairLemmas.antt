-- One step of putting a pair among others by their keys.
use Rattle.std.proofs.Common.{◌≡◌, sym, ap, ◌∙◌, List, [], ◌∷◌, ◌++◌, append_assoc}
use Rattle.std.specs.Ordering.{match_ordering}
use Rattle.std.specs.declared.cmp.Ordering.{Ordering}
use Rattle.std.specs.declared.cmp.Ordering.TheVariants.{Less, Equal, Greater}
use Rattle.bucket_api.specs.BucketStep.{with_pair}
use Rattle.bucket_api.specs.Metadata.{text_cmp}
use Rattle.bucket_api.specs.declared.objects.Pair.{Pair}

module _ {rest later : List Pair} {pair : Pair} (behind : List Pair) (one : Pair) (is : rest ≡ pair ∷ later) where
  step : (o : Ordering) → text_cmp one.key pair.key ≡ o → match_ordering o (one ∷ pair ∷ later) (one ∷ later) (pair ∷ with_pair later one) ≡ with_pair rest one
  step o order = sym (ap (λ ps. with_pair ps one) is ∙ ap (λ r. match_ordering r (one ∷ pair ∷ later) (one ∷ later) (pair ∷ with_pair later one)) order)

  -- before the first one whose key is above
  pub put_before : text_cmp one.key pair.key ≡ Less → (behind ++ one ∷ []) ++ rest ≡ behind ++ with_pair rest one
  put_before below = append_assoc behind (one ∷ []) rest ∙ ap (λ ps. behind ++ ps) (ap (λ ps. one ∷ ps) is ∙ step Less below)

  -- in the place of the one of its key
  pub put_in_place : text_cmp one.key pair.key ≡ Equal → (behind ++ one ∷ []) ++ later ≡ behind ++ with_pair rest one
  put_in_place same = append_assoc behind (one ∷ []) later ∙ ap (λ ps. behind ++ ps) (step Equal same)

  -- behind one whose key is below
  pub put_behind : text_cmp one.key pair.key ≡ Greater → (behind ++ pair ∷ []) ++ with_pair later one ≡ behind ++ with_pair rest one
  put_behind above = append_assoc behind (pair ∷ []) (with_pair later one) ∙ ap (λ ps. behind ++ ps) (step Greater above)
