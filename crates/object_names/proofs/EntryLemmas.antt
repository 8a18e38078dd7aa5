-- Entries in order, and that what a directory shows under each name leaves one list of entries.
use Rattle.std.proofs.Common.{◌≡◌, ℕ, Bool, true, false, cond, ◌&&◌, List, [], ◌∷◌, map, Some, refl, sym, ap, subst, ◌∙◌, T, String, string_bytes, Ordering}
use Rattle.std.proofs.lemmas.Map.Keys.{sorted_head, sorted_tail}
use Rattle.std.specs.BTreeMap.{BTreeMap, get_by_text, IsOrdered, is_at}
use Rattle.std.specs.Map.{lookup}
use Rattle.std.specs.Cmp.Lexicographic.{slice_cmp, nat_list_cmp_total}
use Rattle.std.specs.FinMap as map
use Rattle.std.specs.FinMap.Entries.{below_all, is_sorted, same_entries}
use Rattle.std.specs.List.{AllByRecursion}
use Rattle.std.specs.List.Sorted.{IsStrictlySortedBy}
use Rattle.std.specs.Ordering.{nat_cmp, is_lt, is_eq}
use Rattle.std.specs.String.{string_cmp}
use Rattle.std.specs.declared.cmp.Ordering.TheVariants.{Less}
use Rattle.object_names.specs.ShownNames.{Listed, kind_shown, shown_map, shown_entries, kind_at, Shows}
use Rattle.object_names.specs.Slow.{items_of}
use Rattle.object_names.specs.declared.shown.NodeKind.{NodeKind}
use Rattle.object_names.specs.declared.shown.DirItem.{DirItem}
use Rattle.object_names.proofs.ShownLemmas.{get-shown_map}

both : (a b : Bool) → T a → T b → T (a && b)
both true b p q = q
both false b p q = p

-- ---- two words for keys that strictly rise
module _ {K X : Type 0} (R : K → K → Ordering) where
  below_from : (x : K) (es : List (K × X)) → AllByRecursion (λ y. R x y ≡ Less) (map (λ e. e.0) es) → T (below_all R x es)
  below_from x [] h = tt
  below_from x (e ∷ es) h = both (is_lt (R x e.0)) (below_all R x es) (subst (λ r. T (is_lt r)) (sym h.0) tt) (below_from x es h.1)

  is_sorted-from_rising : (es : List (K × X)) → IsStrictlySortedBy R (map (λ e. e.0) es) → T (is_sorted R es)
  is_sorted-from_rising [] h = tt
  is_sorted-from_rising (e ∷ es) h =
      both (below_all R e.0 es) (is_sorted R es)
      (below_from e.0 es (sorted_head R e.0 (map (λ x. x.0) es) h))
      (is_sorted-from_rising es (sorted_tail R e.0 (map (λ x. x.0) es) h))

-- ---- entries and pairs
pairs_of : List DirItem → List (List ℕ × NodeKind)
pairs_of entries = map (λ entry. (entry.shown, entry.kind)) entries

back : (entries : List DirItem) → map (λ (pair : List ℕ × NodeKind). record { shown = pair.0; kind = pair.1 }) (map (λ (entry : DirItem). (entry.shown, entry.kind)) entries) ≡ entries
back [] = refl
back (entry ∷ entries) = ap (λ rest. entry ∷ rest) (back entries)

names_of_pairs : (entries : List DirItem) → map (λ (pair : List ℕ × NodeKind). pair.0) (map (λ (entry : DirItem). (entry.shown, entry.kind)) entries) ≡ map (λ (entry : DirItem). entry.shown) entries
names_of_pairs [] = refl
names_of_pairs (entry ∷ entries) = ap (λ rest. entry.shown ∷ rest) (names_of_pairs entries)

-- entries that show what a directory shows are its entries
pub shown_entries-from_Shows : (listed : Listed) (entries : List DirItem) → Shows listed entries → entries ≡ shown_entries listed
shown_entries-from_Shows listed entries shows =
    sym (back entries) ∙ ap (map (λ (pair : List ℕ × NodeKind). record { shown = pair.0; kind = pair.1 }))
    (same_entries (slice_cmp nat_cmp) nat_list_cmp_total (map.slice_cmp-IsAntisymmetric map.nat_cmp-IsAntisymmetric)
    (map (λ (entry : DirItem). (entry.shown, entry.kind)) entries) (map.entries (shown_map listed))
    (is_sorted-from_rising (slice_cmp nat_cmp) (map (λ (entry : DirItem). (entry.shown, entry.kind)) entries)
    (subst (IsStrictlySortedBy (slice_cmp nat_cmp)) (sym (names_of_pairs entries)) shows.rising))
    (map.entries_sorted (shown_map listed))
    (λ q. shows.each q ∙ sym (get-shown_map listed q) ∙ map.get-entries (shown_map listed) q))

-- ---- a map from texts to kinds
module _ {Y : Type 0} where
  find_text : (q : List ℕ) (es : List (String Y × NodeKind)) → kind_at (items_of es) q ≡ lookup (is_at (λ k. slice_cmp nat_cmp q (string_bytes k))) es
  find_text q [] = refl
  find_text q (e ∷ es) = ap (cond (is_eq (slice_cmp nat_cmp q (string_bytes e.0))) (Some e.1)) (find_text q es)

  texts_rise : (es : List (String Y × NodeKind)) → IsStrictlySortedBy string_cmp (map (λ e. e.0) es) → IsStrictlySortedBy (slice_cmp nat_cmp) (map (λ entry. entry.shown) (items_of es))
  unfolding IsStrictlySortedBy
  texts_rise [] h = h
  texts_rise (e ∷ es) h = (each_text (string_bytes e.0) es h.0, texts_rise es h.1)
    where
      each_text : (first : List ℕ) (es : List (String Y × NodeKind)) → AllByRecursion (λ y. slice_cmp nat_cmp first (string_bytes y) ≡ Less) (map (λ e. e.0) es)
          → AllByRecursion (λ y. slice_cmp nat_cmp first y ≡ Less) (map (λ entry. entry.shown) (items_of es))
      each_text first [] h = h
      each_text first (e ∷ es) h = (h.0, each_text first es h.1)

  -- a map in order that has under each name what is shown under it
  pub Shows-map : (listed : Listed) (m : BTreeMap (String Y) NodeKind) → IsOrdered string_cmp m → ((q : List ℕ) → get_by_text m q ≡ kind_shown listed q) → Shows listed (items_of m.entries)
  Shows-map listed m ordered is = record { rising = texts_rise m.entries ordered; each = λ q. find_text q m.entries ∙ is q }
