-- One step of the copy of a map, in order.
use Rattle.std.proofs.Common.{◌≡◌, refl, sym, ap, ◌∙◌, subst, ℕ, List, [], ◌∷◌, ◌++◌, append_assoc}
use Rattle.std.specs.declared.cmp.Ordering.TheVariants.{Less}
use Rattle.std.specs.Ordering.{match_ordering}
use Rattle.std.specs.List.{AllByRecursion}
use Rattle.std.specs.List.Sorted.{IsStrictlySortedBy}
use Rattle.std.specs.Map.{keys_of}
use Rattle.std.specs.BTreeMap.{insert_entry}
use Rattle.std.proofs.lemmas.Map.Keys.{sorted_head, sorted_tail}
use Rattle.bucket_api.specs.declared.objects.Object.{Object}
use Rattle.bucket_api.specs.Metadata.{text_cmp}
use Rattle.bucket_api.proofs.TextOrder.{text_above}

abbrev Entries : Type 0
Entries = List (List ℕ × Object)

-- an entry whose key is above all others goes last
insert_last : (done later : Entries) (k : List ℕ) (v : Object) → IsStrictlySortedBy text_cmp (keys_of (done ++ (k, v) ∷ later)) → insert_entry text_cmp done k v ≡ done ++ (k, v) ∷ []
insert_last [] later k v sorted = refl
insert_last (e ∷ done) later k v sorted =
    ap (λ o. match_ordering o ((k, v) ∷ e ∷ done) ((e.0, v) ∷ done) (e ∷ insert_entry text_cmp done k v)) (text_above e.0 k (among done (sorted_head text_cmp e.0 (keys_of (done ++ (k, v) ∷ later)) sorted)))
    ∙ ap (λ es. e ∷ es) (insert_last done later k v (sorted_tail text_cmp e.0 (keys_of (done ++ (k, v) ∷ later)) sorted))
  where
    among : (es : Entries) → AllByRecursion (λ y. text_cmp e.0 y ≡ Less) (keys_of (es ++ (k, v) ∷ later)) → text_cmp e.0 k ≡ Less
    among [] all = all.0
    among (x ∷ es) all = among es all.1

-- the next entry of a map in order, put into the entries so far
pub copy_step : (all done left later new : Entries) (k l : List ℕ) (v w : Object) → IsStrictlySortedBy text_cmp (keys_of all) → done ++ left ≡ all → left ≡ (k, v) ∷ later → l ≡ k → w ≡ v
    → new ≡ insert_entry text_cmp done l w → new ++ later ≡ all
copy_step all done left later new k l v w sorted so_far next same_key same_value is =
    let here : done ++ (k, v) ∷ later ≡ all = ap (λ es. done ++ es) (sym next) ∙ so_far in
    let put : new ≡ done ++ (k, v) ∷ [] = is ∙ (ap (λ n. insert_entry text_cmp done n w) same_key ∙ (ap (λ o. insert_entry text_cmp done k o) same_value ∙ insert_last done later k v (subst (λ es. IsStrictlySortedBy text_cmp (keys_of es)) (sym here) sorted))) in
    ap (λ es. es ++ later) put ∙ (append_assoc done ((k, v) ∷ []) later ∙ here)
