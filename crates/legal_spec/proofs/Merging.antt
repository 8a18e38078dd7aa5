-- Merges of lists: what is picked from a merge, and the merge of one list alone.
use Rattle.std.proofs.Common.{◌≡◌, List, [], ◌∷◌, ◌++◌, map, Option, Some, None, refl, sym, ap, subst, ◌∙◌, ◌⊎◌, inl, inr}
use Rattle.std.proofs.lemmas.List.{map-append}
use Rattle.std.specs.List.{AllByRecursion, cons_option, filter_map, flat_map}
use Rattle.legal_spec.specs.Schedules.{IsMerge}

abbrev pub AllEmpty : {X : Type 0} → List (List X) → Type 0
AllEmpty lists = AllByRecursion (λ list. list ≡ []) lists

-- ---- lists one behind the other
empty_first : {X : Type 0} (lists : List (List X)) (merged : List X) → IsMerge lists merged → IsMerge ([] ∷ lists) merged
empty_first lists [] merge = (refl, merge)
empty_first lists (x ∷ merged) merge =
    ([] ∷ merge.0, merge.1, merge.2, ap (λ ls. [] ∷ ls) merge.3, empty_first (merge.0 ++ merge.1 ∷ merge.2) merged merge.4)

list_first : {X : Type 0} (list : List X) (lists : List (List X)) (merged : List X) → IsMerge lists merged → IsMerge (list ∷ lists) (list ++ merged)
list_first [] lists merged merge = empty_first lists merged merge
list_first (x ∷ rest) lists merged merge = ([], rest, lists, refl, list_first rest lists merged merge)

pub in_order : {X : Type 0} (lists : List (List X)) → IsMerge lists (flat_map (λ list. list) lists)
in_order [] = tt
in_order (list ∷ lists) = list_first list lists (flat_map (λ l. l) lists) (in_order lists)

-- ---- what is picked from a merge is a merge of what is picked from each list
all_picked : {X Y : Type 0} (h : X → Option Y) (lists : List (List X)) → AllEmpty lists → AllEmpty (map (filter_map h) lists)
all_picked h [] all = tt
all_picked h (list ∷ lists) all = (ap (filter_map h) all.0, all_picked h lists all.1)

pub merge_picked : {X Y : Type 0} (h : X → Option Y) (lists : List (List X)) (merged : List X) → IsMerge lists merged → IsMerge (map (filter_map h) lists) (filter_map h merged)
merge_picked h lists [] merge = all_picked h lists merge
merge_picked {X} {Y} h lists (x ∷ merged) merge = by (h x) refl (merge_picked h (merge.0 ++ merge.1 ∷ merge.2) merged merge.4)
  where
    first : List (List Y)
    first = map (filter_map h) merge.0

    rest : List Y
    rest = filter_map h merge.1

    last : List (List Y)
    last = map (filter_map h) merge.2

    whole : map (filter_map h) lists ≡ map (filter_map h) merge.0 ++ cons_option (h x) (filter_map h merge.1) ∷ map (filter_map h) merge.2
    whole = ap (map (filter_map h)) merge.3 ∙ map-append (filter_map h) merge.0 ((x ∷ merge.1) ∷ merge.2)

    by : (found : Option Y) → h x ≡ found → IsMerge (map (filter_map h) (merge.0 ++ merge.1 ∷ merge.2)) (filter_map h merged)
        → IsMerge (map (filter_map h) lists) (cons_option found (filter_map h merged))
    by None is later =
        subst (λ ls. IsMerge ls (filter_map h merged))
        (map-append (filter_map h) merge.0 (merge.1 ∷ merge.2) ∙ ap (λ found. first ++ cons_option found rest ∷ last) (sym is) ∙ sym whole) later
    by (Some y) is later = (
      first,
      rest,
      last,
      whole ∙ ap (λ found. first ++ cons_option found rest ∷ last) is,
      subst (λ ls. IsMerge ls (filter_map h merged)) (map-append (filter_map h) merge.0 (merge.1 ∷ merge.2)) later,
    )

-- ---- one list alone
-- the list is the only one of these that has any item
abbrev pub IsAlone : {X : Type 0} → List (List X) → List X → Type 0
IsAlone [] one = one ≡ []
IsAlone (list ∷ lists) one = ((list ≡ []) × IsAlone lists one) ⊎ ((list ≡ one) × AllEmpty lists)

never_empty : {X : Type 0} (before : List (List X)) (x : X) (rest : List X) (after : List (List X)) → AllEmpty (before ++ (x ∷ rest) ∷ after) → ⊥
never_empty [] x rest after all = absurd (let never : x ∷ rest ≡ [] = all.0 in cc)
never_empty (list ∷ before) x rest after all = never_empty before x rest after all.1

alone_next : {X : Type 0} (before : List (List X)) (x : X) (rest : List X) (after : List (List X)) (one : List X)
    → IsAlone (before ++ (x ∷ rest) ∷ after) one → (one ≡ x ∷ rest) × IsAlone (before ++ rest ∷ after) rest
alone_next [] x rest after one (inl (none, more)) = absurd (let never : x ∷ rest ≡ [] = none in cc)
alone_next [] x rest after one (inr (is, all)) = (sym is, inr (refl, all))
alone_next (list ∷ before) x rest after one (inl (none, more)) = let next = alone_next before x rest after one more in (next.0, inl (none, next.1))
alone_next (list ∷ before) x rest after one (inr (is, all)) = absurd (never_empty before x rest after all)

alone_empty : {X : Type 0} (lists : List (List X)) (one : List X) → AllEmpty lists → IsAlone lists one → [] ≡ one
alone_empty [] one all alone = sym alone
alone_empty (list ∷ lists) one all (inl (none, more)) = alone_empty lists one all.1 more
alone_empty (list ∷ lists) one all (inr (is, empty)) = sym all.0 ∙ is

pub merge_alone : {X : Type 0} (lists : List (List X)) (merged one : List X) → IsMerge lists merged → IsAlone lists one → merged ≡ one
merge_alone lists [] one merge alone = alone_empty lists one merge alone
merge_alone lists (x ∷ merged) one merge alone =
    let next = alone_next merge.0 x merge.1 merge.2 one (subst (λ ls. IsAlone ls one) merge.3 alone) in
    ap (λ more. x ∷ more) (merge_alone (merge.0 ++ merge.1 ∷ merge.2) merged merge.1 merge.4 next.1) ∙ sym next.0
