-- How many handles are open on a node, and what each call leaves.
use Rattle.std.proofs.Common.{◌≡◌, ◌≢◌, ℕ, suc, ◌+◌, ◌-◌, ◌<◌, ◌≤◌, Bool, true, false, cond, ◌||◌, List, [], ◌∷◌, Option, Some, None, refl, sym, ap, subst, ◌∙◌, ◌⊎◌, inl, inr, nat_eq, nat_lt, nat_cmp, ◌==◌, length, filter, map, unwrap_or, arith}
use Rattle.std.proofs.lemmas.Bool.{false≢true}
use Rattle.std.proofs.lemmas.Bool.Decides.{Decides-eqb, nat_tests}
use Rattle.std.specs.Cmp.{nat_cmp_total}
use Rattle.std.specs.FinMap as fin
use Rattle.std.specs.FinMap.Entries.{put, by_order}
use Rattle.std.specs.List.{list_any}
use Rattle.std.specs.Ordering.{is_eq}
use Rattle.std.specs.declared.cmp.Ordering.TheVariants.{Less, Equal, Greater}
use Rattle.base_laws.proofs.Tests.{either_of, same_or_not}
use Rattle.spare_maps.specs.SpareMaps.{Numbered}
use Rattle.spare_maps.proofs.FinMaps.{get-insert_number, get-remove_number, number_put, number_taken, number_taken_same}
use Rattle.handle_table.specs.Handles.{Opened, Handles, IsHandleTable, HoldsHandles, open_on, count_at, opened, released}

-- ---- lists
module _ {X : Type 0} (p : X → Bool) where
  one_if : X → ℕ
  one_if x = cond (p x) 1 0

  length-front : (x : X) (xs : List X) → length (cond (p x) (x ∷ xs) xs) ≡ cond (p x) 1 0 + length xs
  length-front x xs = elim (p x) as (λ b. length (cond b (x ∷ xs) xs) ≡ cond b 1 0 + length xs) [ true ↦ omega arith | false ↦ omega arith ]

  -- an element passes exactly where the number of those that do is above 0
  pub list_any-filter : (xs : List X) → list_any p xs ≡ nat_lt 0 (length (filter p xs))
  list_any-filter [] = refl
  list_any-filter (x ∷ xs) = elim (p x) as (λ b. (b || list_any p xs) ≡ nat_lt 0 (length (cond b (x ∷ filter p xs) (filter p xs)))) [
    | true ↦ above (length (filter p xs))
    | false ↦ list_any-filter xs
  ]
    where
      above : (n : ℕ) → true ≡ nat_lt 0 (suc n)
      above n = grind (arith, nat_tests)

  -- an entry put under a key that is not there
  length-put : (k : ℕ) (x : X) (es : List (ℕ × X)) → fin.find nat_cmp k es ≡ None
      → length (filter p (map (λ e. e.1) (put nat_cmp k x es))) ≡ cond (p x) 1 0 + length (filter p (map (λ e. e.1) es))
  length-put k x [] = λ none. length-front x []
  length-put k x (e ∷ es) =
      elim (nat_cmp k e.0) as (λ o. cond (is_eq o) (Some e.1) (fin.find nat_cmp k es) ≡ None
      → length (filter p (map (λ (y : ℕ × X). y.1) (by_order o ((k, x) ∷ e ∷ es) ((e.0, x) ∷ es) (e ∷ put nat_cmp k x es)))) ≡ cond (p x) 1 0 + length (filter p (map (λ (y : ℕ × X). y.1) (e ∷ es)))) [
        | Less ↦ λ none. length-front x (filter p (map (λ (y : ℕ × X). y.1) (e ∷ es)))
        | Equal ↦ λ none. absurd (some_none e.1 none)
        | Greater ↦ λ none. later (length-put k x es none)
      ]
    where
      some_none : (y : X) → Some y ≡ None → ⊥
      some_none y same = cc

      later : length (filter p (map (λ (y : ℕ × X). y.1) (put nat_cmp k x es))) ≡ cond (p x) 1 0 + length (filter p (map (λ (y : ℕ × X). y.1) es))
          → length (cond (p e.1) (e.1 ∷ filter p (map (λ (y : ℕ × X). y.1) (put nat_cmp k x es))) (filter p (map (λ (y : ℕ × X). y.1) (put nat_cmp k x es))))
          ≡ cond (p x) 1 0 + length (cond (p e.1) (e.1 ∷ filter p (map (λ (y : ℕ × X). y.1) es)) (filter p (map (λ (y : ℕ × X). y.1) es)))
      later h = omega (arith, h, length-front e.1 (filter p (map (λ (y : ℕ × X). y.1) (put nat_cmp k x es))), length-front e.1 (filter p (map (λ (y : ℕ × X). y.1) es)))

no_length : {X : Type 0} (xs : List X) → length xs ≡ 0 → xs ≡ []
no_length [] e = refl
no_length (x ∷ xs) e = absurd (omega arith)

-- ---- handles on a node
pub open_on-empty : (node : ℕ) → open_on fin.empty node ≡ 0
open_on-empty node = ap (λ es. length (filter (λ (handle : Opened). handle.node == node) (map (λ (e : ℕ × Opened). e.1) es)))
    (no_length (fin.entries {X = Opened} {R = nat_cmp} fin.empty) (sym (fin.len-entries fin.empty) ∙ fin.len-empty nat_cmp Opened))

pub open_on-insert : (handles : fin.FinMap nat_cmp Opened) (fh : ℕ) (handle : Opened) (node : ℕ) → fin.get handles fh ≡ None
    → open_on (fin.insert handles fh handle) node ≡ cond (handle.node == node) 1 0 + open_on handles node
open_on-insert handles fh handle node none =
    ap (λ es. length (filter (λ (h : Opened). h.node == node) (map (λ (e : ℕ × Opened). e.1) es))) (fin.entries-insert nat_cmp_total handles fh handle)
    ∙ length-put (λ h. h.node == node) fh handle (fin.entries handles) (sym (fin.get-entries handles fh) ∙ none)

-- a handle that is there, taken away and put back
put_back : (handles : fin.FinMap nat_cmp Opened) (fh : ℕ) (handle : Opened) → fin.get handles fh ≡ Some handle → handles ≡ fin.insert (fin.remove handles fh) fh handle
put_back handles fh handle there = fin.same_map nat_cmp_total fin.nat_cmp-IsAntisymmetric _ _ (λ q.
    split q (nat_eq q fh) refl ∙ sym (get-insert_number (fin.remove handles fh) fh handle q))
  where
    split : (q : ℕ) (b : Bool) → nat_eq q fh ≡ b → fin.get handles q ≡ cond (nat_eq q fh) (Some handle) (fin.get (fin.remove handles fh) q)
    split q true e = ap (fin.get handles) ((Decides-eqb q fh).0 e) ∙ there ∙ sym (ap (λ b. cond b (Some handle) (fin.get (fin.remove handles fh) q)) e)
    split q false e = sym (ap (λ b. cond b (Some handle) (fin.get (fin.remove handles fh) q)) e ∙ get-remove_number handles fh q ∙ ap (λ b. cond b None (fin.get handles q)) e)

pub open_on-remove : (handles : fin.FinMap nat_cmp Opened) (fh : ℕ) (handle : Opened) (node : ℕ) → fin.get handles fh ≡ Some handle
    → open_on handles node ≡ cond (handle.node == node) 1 0 + open_on (fin.remove handles fh) node
open_on-remove handles fh handle node there =
    ap (λ m. open_on m node) (put_back handles fh handle there)
    ∙ open_on-insert (fin.remove handles fh) fh handle node (number_taken_same handles fh)

-- taking away what is not there changes nothing
pub remove-absent : {X : Type 0} (m : fin.FinMap nat_cmp X) (k : ℕ) → fin.get m k ≡ None → fin.remove m k ≡ m
remove-absent m k none = fin.same_map nat_cmp_total fin.nat_cmp-IsAntisymmetric _ _ (λ q. get-remove_number m k q ∙ split q (nat_eq q k) refl)
  where
    split : (q : ℕ) (b : Bool) → nat_eq q k ≡ b → cond (nat_eq q k) None (fin.get m q) ≡ fin.get m q
    split q true e = ap (λ b. cond b None (fin.get m q)) e ∙ sym (ap (fin.get m) ((Decides-eqb q k).0 e) ∙ none)
    split q false e = ap (λ b. cond b None (fin.get m q)) e

-- ---- counts by node
pub count_at-insert : (counts : fin.FinMap nat_cmp ℕ) (node count q : ℕ) → count_at (fin.insert counts node count) q ≡ cond (nat_eq q node) count (count_at counts q)
count_at-insert counts node count q = ap (λ o. unwrap_or o 0) (get-insert_number counts node count q)
    ∙ elim (nat_eq q node) as (λ b. unwrap_or (cond b (Some count) (fin.get counts q)) 0 ≡ cond b count (count_at counts q)) [ true ↦ refl | false ↦ refl ]

pub count_at-remove : (counts : fin.FinMap nat_cmp ℕ) (node q : ℕ) → count_at (fin.remove counts node) q ≡ cond (nat_eq q node) 0 (count_at counts q)
count_at-remove counts node q = ap (λ o. unwrap_or o 0) (get-remove_number counts node q)
    ∙ elim (nat_eq q node) as (λ b. unwrap_or (cond b None (fin.get counts q)) 0 ≡ cond b 0 (count_at counts q)) [ true ↦ refl | false ↦ refl ]

differs : (n m : ℕ) → n ≢ m → nat_eq n m ≡ false
differs n m h = elim (nat_eq n m) as (λ b. nat_eq n m ≡ b → b ≡ false) [ true ↦ λ e. absurd (h ((Decides-eqb n m).0 e)) | false ↦ λ e. refl ] refl

-- one more at a node, in the counts and among the handles
pub counts_up : (counts on : ℕ → ℕ) (q node : ℕ) → ((n : ℕ) → counts n ≡ on n) → cond (nat_eq q node) (counts node + 1) (counts q) ≡ cond (nat_eq node q) 1 0 + on q
counts_up counts on q node are = either_of (same_or_not q node)
    (λ p. let here : counts node ≡ on q = ap counts (sym p) ∙ are q in
    ap (λ t. cond t (counts node + 1) (counts q)) ((Decides-eqb q node).1 p) ∙ (let step : counts node + 1 ≡ 1 + on q = omega arith in step)
    ∙ sym (ap (λ t. cond t 1 0 + on q) ((Decides-eqb node q).1 (sym p))))
    (λ p. let there : counts q ≡ on q = are q in
    ap (λ t. cond t (counts node + 1) (counts q)) (differs q node p) ∙ (let step : counts q ≡ 0 + on q = omega arith in step)
    ∙ sym (ap (λ t. cond t 1 0 + on q) (differs node q (λ e. p (sym e)))))

-- one less
pub counts_down : (counts on : ℕ → ℕ) (q node left : ℕ) → ((n : ℕ) → counts n ≡ on n) → on q ≡ cond (nat_eq node q) 1 0 + left → cond (nat_eq q node) (counts node - 1) (counts q) ≡ left
counts_down counts on q node left are e = either_of (same_or_not q node)
    (λ p. let here : counts node ≡ on q = ap counts (sym p) ∙ are q in
    let all : on q ≡ 1 + left = e ∙ ap (λ t. cond t 1 0 + left) ((Decides-eqb node q).1 (sym p)) in
    ap (λ t. cond t (counts node - 1) (counts q)) ((Decides-eqb q node).1 p) ∙ (let step : counts node - 1 ≡ left = omega arith in step))
    (λ p. let there : counts q ≡ on q = are q in
    let all : on q ≡ 0 + left = e ∙ ap (λ t. cond t 1 0 + left) (differs node q (λ x. p (sym x))) in
    ap (λ t. cond t (counts node - 1) (counts q)) (differs q node p) ∙ (let step : counts q ≡ left = omega arith in step))

-- ---- tables
pub fresh : (table : Handles) → IsHandleTable table → fin.get table.handles table.next ≡ None
fresh table t = elim (fin.get table.handles table.next) as (λ o. fin.get table.handles table.next ≡ o → o ≡ None) [
  | None ↦ λ e. refl
  | Some handle ↦ λ e. let below = t.given table.next handle e in absurd (omega arith)
] refl

one_at_most : (b : Bool) → cond b 1 0 ≤ 1
one_at_most true = omega arith
one_at_most false = omega arith

pub IsHandleTable-opened : (table : Handles) (handle : Opened) → IsHandleTable table → IsHandleTable (opened table handle)
IsHandleTable-opened table handle t = record {
  given = λ fh h e. either_of (number_put table.handles table.next handle h fh e) (λ p. subst (λ n. n < table.next + 1) (sym p.0) (omega arith)) (λ p. let old = t.given fh h p in omega arith);
  bounded = λ node. omega (arith, open_on-insert table.handles table.next handle node (fresh table t), t.bounded node, one_at_most (handle.node == node));
}

pub IsHandleTable-released : (table : Handles) (fh : ℕ) → IsHandleTable table → IsHandleTable (released table fh)
IsHandleTable-released table fh t = record {
  given = λ n h e. t.given n h (number_taken table.handles fh h n e).1;
  bounded = λ node. fewer node (fin.get table.handles fh) refl;
}
  where
    fewer : (node : ℕ) (o : Option Opened) → fin.get table.handles fh ≡ o → open_on (fin.remove table.handles fh) node ≤ table.next
    fewer node None e = subst (λ m. open_on m node ≤ table.next) (sym (remove-absent table.handles fh e)) (t.bounded node)
    fewer node (Some handle) e = omega (arith, open_on-remove table.handles fh handle node e, t.bounded node)

-- ---- the fields of the code's table
pub HoldsHandles-new : (handles : Numbered Opened) (held : Numbered ℕ) → handles.map ≡ fin.empty → held.map ≡ fin.empty → HoldsHandles handles held 1 0
HoldsHandles-new handles held e f = record {
  table = record {
    given = λ fh h there. absurd (nothing fh h (ap (λ m. fin.get m fh) (sym e) ∙ there));
    bounded = λ node. omega (arith, ap (λ m. open_on m node) e, open_on-empty node);
  };
  counts = λ node. ap (λ m. count_at m node) f ∙ ap (λ o. unwrap_or o 0) (fin.get-empty nat_cmp node) ∙ sym (ap (λ m. open_on m node) e ∙ open_on-empty node);
  handle_room = omega arith;
  held_room = omega arith;
}
  where
    nothing : (fh : ℕ) (h : Opened) → fin.get {R = nat_cmp} fin.empty fh ≡ Some h → ⊥
    nothing fh h there = let none : fin.get {X = Opened} {R = nat_cmp} fin.empty fh ≡ None = fin.get-empty nat_cmp fh in cc

-- the handles another map, the counts theirs
pub HoldsHandles-of : (handles : Numbered Opened) (held : Numbered ℕ) (next spare : ℕ) (m : fin.FinMap nat_cmp Opened) → handles.map ≡ m
    → IsHandleTable (record { handles = m; next = next; spare = spare }) → ((node : ℕ) → count_at held.map node ≡ open_on m node)
    → spare ≤ handles.spare → spare ≤ held.spare → HoldsHandles handles held next spare
HoldsHandles-of handles held next spare m e t counts handle_room held_room = record {
  table = subst (λ x. IsHandleTable (record { handles = x; next = next; spare = spare })) (sym e) t;
  counts = λ node. counts node ∙ ap (λ x. open_on x node) (sym e);
  handle_room = handle_room;
  held_room = held_room;
}

pub IsHandleTable-spare : (table : Handles) (spare : ℕ) → IsHandleTable table → IsHandleTable (record table { spare = spare })
IsHandleTable-spare table spare t = record { given = t.given; bounded = t.bounded }

-- whether a handle is open on a node, by the count
pub held_answer : (handles : fin.FinMap nat_cmp Opened) (node count : ℕ) → count ≡ open_on handles node → nat_lt 0 count ≡ list_any (λ handle. handle.node == node) (fin.values handles)
held_answer handles node count e = ap (nat_lt 0) e ∙ sym (list_any-filter (λ handle. handle.node == node) (fin.values handles))
