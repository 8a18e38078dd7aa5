-- What is taken together over the values of a map, once a value was put or taken away; and tests over lists of lists.
use Rattle.std.proofs.Common.{◌≡◌, ℕ, Bool, true, false, cond, ◌||◌, List, [], ◌∷◌, map, Some, None, refl, sym, ap, ◌∙◌, nat_eq, nat_cmp}
use Rattle.std.proofs.lemmas.Bool.{false≢true}
use Rattle.std.proofs.lemmas.Bool.Decides.{Decides-eqb}
use Rattle.std.specs.Cmp.{nat_cmp_total}
use Rattle.std.specs.FinMap as fin
use Rattle.std.specs.FinMap.Entries.{put, by_order}
use Rattle.std.specs.List.{list_any}
use Rattle.std.specs.Ordering.{is_eq}
use Rattle.std.specs.declared.cmp.Ordering.TheVariants.{Less, Equal, Greater}
use Rattle.spare_maps.proofs.FinMaps.{get-insert_number, get-remove_number, number_taken_same}
use Rattle.claims.specs.Tallies.{total_by}

module _ {X : Type 0} where
  -- a value that is there, taken away and put back
  put_back : (m : fin.FinMap nat_cmp X) (n : ℕ) (x : X) → fin.get m n ≡ Some x → m ≡ fin.insert (fin.remove m n) n x
  put_back m n x there = fin.same_map nat_cmp_total fin.nat_cmp-IsAntisymmetric _ _ (λ q. split q (nat_eq q n) refl ∙ sym (get-insert_number (fin.remove m n) n x q))
    where
      split : (q : ℕ) (b : Bool) → nat_eq q n ≡ b → fin.get m q ≡ cond (nat_eq q n) (Some x) (fin.get (fin.remove m n) q)
      split q true e = ap (fin.get m) ((Decides-eqb q n).0 e) ∙ there ∙ sym (ap (λ b. cond b (Some x) (fin.get (fin.remove m n) q)) e)
      split q false e = sym (ap (λ b. cond b (Some x) (fin.get (fin.remove m n) q)) e ∙ get-remove_number m n q ∙ ap (λ b. cond b None (fin.get m q)) e)

module _ {X M : Type 0} (f : X → M) (op : M → M → M) (zero : M) (op_swap : (a b c : M) → op a (op b c) ≡ op b (op a c)) where
  -- an entry put under a key that isn't there
  total_by-put : (n : ℕ) (x : X) (es : List (ℕ × X)) → fin.find nat_cmp n es ≡ None
      → total_by f op zero (map (λ e. e.1) (put nat_cmp n x es)) ≡ op (f x) (total_by f op zero (map (λ e. e.1) es))
  total_by-put n x [] = λ none. refl
  total_by-put n x (e ∷ es) =
      elim (nat_cmp n e.0) as (λ o. cond (is_eq o) (Some e.1) (fin.find nat_cmp n es) ≡ None
      → total_by f op zero (map (λ (y : ℕ × X). y.1) (by_order o ((n, x) ∷ e ∷ es) ((e.0, x) ∷ es) (e ∷ put nat_cmp n x es))) ≡ op (f x) (total_by f op zero (map (λ (y : ℕ × X). y.1) (e ∷ es)))) [
        | Less ↦ λ none. refl
        | Equal ↦ λ none. absurd (some_none e.1 none)
        | Greater ↦ λ none. ap (op (f e.1)) (total_by-put n x es none) ∙ op_swap (f e.1) (f x) (total_by f op zero (map (λ (y : ℕ × X). y.1) es))
      ]
    where
      some_none : (y : X) → Some y ≡ None → ⊥
      some_none y same = cc

  pub total_by-insert : (m : fin.FinMap nat_cmp X) (n : ℕ) (x : X) → fin.get m n ≡ None
      → total_by f op zero (fin.values (fin.insert m n x)) ≡ op (f x) (total_by f op zero (fin.values m))
  total_by-insert m n x none =
      ap (λ es. total_by f op zero (map (λ (e : ℕ × X). e.1) es)) (fin.entries-insert nat_cmp_total m n x)
      ∙ total_by-put n x (fin.entries m) (sym (fin.get-entries m n) ∙ none)

  pub total_by-remove : (m : fin.FinMap nat_cmp X) (n : ℕ) (x : X) → fin.get m n ≡ Some x
      → total_by f op zero (fin.values m) ≡ op (f x) (total_by f op zero (fin.values (fin.remove m n)))
  total_by-remove m n x there =
      ap (λ k. total_by f op zero (fin.values k)) (put_back m n x there) ∙ total_by-insert (fin.remove m n) n x (number_taken_same m n)

-- ---- tests
or_false : (b c : Bool) → (b || c) ≡ false → (b ≡ false) × (c ≡ false)
or_false true c e = absurd (false≢true (sym e))
or_false false c e = (refl, e)

-- what no value of a map passes, the value under a key doesn't pass
none_found : {X : Type 0} (p : X → Bool) (n : ℕ) (x : X) (es : List (ℕ × X)) → list_any p (map (λ e. e.1) es) ≡ false → fin.find nat_cmp n es ≡ Some x → p x ≡ false
none_found p n x [] none = λ found. absurd (some_none x found)
  where
    some_none : {Y : Type 0} (y : Y) → None ≡ Some y → ⊥
    some_none y same = cc
none_found p n x (e ∷ es) none =
    let both = or_false (p e.1) (list_any p (map (λ e. e.1) es)) none in
    elim (is_eq (nat_cmp n e.0)) as (λ b. cond b (Some e.1) (fin.find nat_cmp n es) ≡ Some x → p x ≡ false) [
      | true ↦ λ found. ap p (sym (same_some e.1 x found)) ∙ both.0
      | false ↦ λ found. none_found p n x es both.1 found
    ]
  where
    same_some : {Y : Type 0} (y z : Y) → Some y ≡ Some z → y ≡ z
    same_some y z same = cc

pub none_got : {X : Type 0} (p : X → Bool) (m : fin.FinMap nat_cmp X) (n : ℕ) (x : X) → list_any p (fin.values m) ≡ false → fin.get m n ≡ Some x → p x ≡ false
none_got p m n x none found = none_found p n x (fin.entries m) none (sym (fin.get-entries m n) ∙ found)

list_any-nothing : {Y : Type 0} (ys : List Y) → false ≡ list_any (λ y. false) ys
list_any-nothing [] = refl
list_any-nothing (y ∷ ys) = list_any-nothing ys

turned : (a b c d : Bool) → ((a || b) || (c || d)) ≡ ((a || c) || (b || d))
turned true b c d = refl
turned false true true d = refl
turned false true false d = refl
turned false false c d = refl

list_any-or : {Y : Type 0} (p q : Y → Bool) (ys : List Y) → (list_any p ys || list_any q ys) ≡ list_any (λ y. p y || q y) ys
list_any-or p q [] = refl
list_any-or p q (y ∷ ys) = turned (p y) (list_any p ys) (q y) (list_any q ys) ∙ ap (λ b. (p y || q y) || b) (list_any-or p q ys)

-- some x and some y pass, whichever is looked for first
pub list_any-swap : {X Y : Type 0} (p : X → Y → Bool) (xs : List X) (ys : List Y) → list_any (λ x. list_any (p x) ys) xs ≡ list_any (λ y. list_any (λ x. p x y) xs) ys
list_any-swap p [] ys = list_any-nothing ys
list_any-swap p (x ∷ xs) ys = ap (λ b. list_any (p x) ys || b) (list_any-swap p xs ys) ∙ list_any-or (p x) (λ y. list_any (λ z. p z y) xs) ys

pub list_any-same : {X : Type 0} (p q : X → Bool) → ((x : X) → p x ≡ q x) → (xs : List X) → list_any p xs ≡ list_any q xs
list_any-same p q same [] = refl
list_any-same p q same (x ∷ xs) = λ i. same x i || list_any-same p q same xs i
