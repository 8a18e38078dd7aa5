-- One step of the merge of two rows of pairs.
use Rattle.std.proofs.Common.{◌≡◌, sym, ap, ◌∙◌, subst, List, [], ◌∷◌, ◌++◌, append_assoc, length, arith}
use Rattle.std.specs.declared.cmp.Ordering.TheVariants.{Less, Equal, Greater}
use Rattle.bucket_api.specs.declared.objects.Pair.{Pair}
use Rattle.bucket_api.specs.Metadata.{text_cmp, KeysRise}
use Rattle.bucket_api.specs.BucketStep.{with_pairs}
use Rattle.bucket_api.proofs.PairLaws.{with_pairs_less, with_pairs_equal, with_pairs_greater, with_pairs_none, KeysRise-tail}

module _ {all old new later others : List Pair} {kept put : Pair} (done : List Pair) (is_old : old ≡ kept ∷ later) (is_new : new ≡ put ∷ others) (rise : KeysRise new) (so_far : done ++ with_pairs old new ≡ all) where
  -- a present pair whose key is below goes first
  pub merge_less : text_cmp kept.key put.key ≡ Less → (done ++ kept ∷ []) ++ with_pairs later new ≡ all
  merge_less below =
      let step : with_pairs (kept ∷ later) (put ∷ others) ≡ kept ∷ with_pairs later (put ∷ others) = with_pairs_less kept put later others (subst KeysRise is_new rise) below in
      let here : kept ∷ with_pairs later new ≡ with_pairs old new = cc in
      append_assoc done (kept ∷ []) (with_pairs later new) ∙ ap (λ ps. done ++ ps) here ∙ so_far

  -- an added pair takes the place of the present one of its key
  pub merge_equal : text_cmp kept.key put.key ≡ Equal → (done ++ put ∷ []) ++ with_pairs later others ≡ all
  merge_equal same =
      let step : with_pairs (kept ∷ later) (put ∷ others) ≡ put ∷ with_pairs later others = with_pairs_equal kept put later others (subst KeysRise is_new rise) same in
      let here : put ∷ with_pairs later others ≡ with_pairs old new = cc in
      append_assoc done (put ∷ []) (with_pairs later others) ∙ ap (λ ps. done ++ ps) here ∙ so_far

  -- an added pair whose key is below goes first
  pub merge_greater : text_cmp kept.key put.key ≡ Greater → (done ++ put ∷ []) ++ with_pairs old others ≡ all
  merge_greater above =
      let step : with_pairs (kept ∷ later) (put ∷ others) ≡ put ∷ with_pairs (kept ∷ later) others = with_pairs_greater kept put later others (subst KeysRise is_new rise) above in
      let here : put ∷ with_pairs old others ≡ with_pairs old new = cc in
      append_assoc done (put ∷ []) (with_pairs old others) ∙ ap (λ ps. done ++ ps) here ∙ so_far

  -- the keys of the pairs that are left to add rise
  pub others_rise : KeysRise others
  others_rise = KeysRise-tail put others (subst KeysRise is_new rise)

-- where no present pair is left, those left to add go last
pub merge_done : (all done old new : List Pair) → length old ≡ 0 → KeysRise new → done ++ with_pairs old new ≡ all → done ++ new ≡ all
merge_done all done [] new none rise so_far = ap (λ ps. done ++ ps) (sym (with_pairs_none new rise)) ∙ so_far
merge_done all done (p ∷ ps) new none rise so_far = absurd (omega arith)
