-- How many blocks all files have touched, once one of them is put in or replaced, or is let go.
use Rattle.std.proofs.Common.{◌≡◌, ℕ, ◌+◌, Bool, true, false, cond, List, [], ◌∷◌, ◌⊎◌, inl, inr, Option, Some, None, refl, sym, ap, ◌∙◌, length, map, nat_eq, nat_cmp, arith}
use Rattle.std.proofs.lemmas.Bool.{cases_eq, eq-eqb, ne_eqb}
use Rattle.std.proofs.lemmas.List.Sums.{sum_by-cons}
use Rattle.std.specs.Cmp.{nat_cmp_total, unsigned_tied}
use Rattle.std.specs.FinMap as fin
use Rattle.std.specs.FinMap.Entries.{put, by_order}
use Rattle.std.specs.List.{sum_by}
use Rattle.std.specs.Option.{option_map_or}
use Rattle.std.specs.Ordering.{is_eq}
use Rattle.std.specs.declared.cmp.Ordering.TheVariants.{Less, Equal, Greater}
use Rattle.staging_spec.specs.StagedFiles.{StagedContent, StagedFiles, blocks_of, blocks_in, blocks_at}

module _ {X : Type 0} (f : X → ℕ) where
  abbrev sum_of : List (ℕ × X) → ℕ
  sum_of es = sum_by f (map (λ e. e.1) es)

  -- an entry is put under a number that is not there
  sum-put : (k : ℕ) (x : X) (es : List (ℕ × X)) → fin.find nat_cmp k es ≡ None → sum_of (put nat_cmp k x es) ≡ f x + sum_of es
  sum-put k x [] = λ none. sum_by-cons f x []
  sum-put k x (e ∷ es) =
      elim (nat_cmp k e.0) as (λ o. cond (is_eq o) (Some e.1) (fin.find nat_cmp k es) ≡ None
      → sum_of (by_order o ((k, x) ∷ e ∷ es) ((e.0, x) ∷ es) (e ∷ put nat_cmp k x es)) ≡ f x + sum_of (e ∷ es)) [
        | Less ↦ λ none. sum_by-cons f x (map (λ (y : ℕ × X). y.1) (e ∷ es))
        | Equal ↦ λ none. absurd (some_none e.1 none)
        | Greater ↦ λ none. later (sum-put k x es none)
      ]
    where
      some_none : (y : X) → Some y ≡ None → ⊥
      some_none y same = cc

      later : sum_of (put nat_cmp k x es) ≡ f x + sum_of es → sum_of (e ∷ put nat_cmp k x es) ≡ f x + sum_of (e ∷ es)
      later more =
          let a = sum_by-cons f e.1 (map (λ (y : ℕ × X). y.1) (put nat_cmp k x es)) in
          let b = sum_by-cons f e.1 (map (λ (y : ℕ × X). y.1) es) in
          omega arith

module _ {X : Type 0} (m : fin.FinMap nat_cmp X) (k : ℕ) where
  found_in : (x : X) (q : ℕ) → fin.get (fin.insert m k x) q ≡ cond (nat_eq q k) (Some x) (fin.get m q)
  found_in x q = fin.get-insert nat_cmp_total m k x q ∙ ap (λ b. cond b (Some x) (fin.get m q)) (unsigned_tied q k)

  left_in : (q : ℕ) → fin.get (fin.remove m k) q ≡ cond (nat_eq q k) None (fin.get m q)
  left_in q = fin.get-remove nat_cmp_total m k q ∙ ap (λ b. cond b None (fin.get m q)) (unsigned_tied q k)

  left_here : fin.get (fin.remove m k) k ≡ None
  left_here = left_in k ∙ ap (λ b. cond b None (fin.get m k)) (eq-eqb k k refl)

-- what is put in is put in where nothing was
put_afresh : {X : Type 0} (m : fin.FinMap nat_cmp X) (k : ℕ) (x : X) → fin.insert m k x ≡ fin.insert (fin.remove m k) k x
put_afresh {X = X} m k x = fin.same_map nat_cmp_total fin.nat_cmp-IsAntisymmetric _ _ (λ q.
    found_in m k x q ∙ twice (nat_eq q k) (fin.get m q) ∙ sym (found_in (fin.remove m k) k x q ∙ ap (λ o. cond (nat_eq q k) (Some x) o) (left_in m k q)))
  where
    twice : (b : Bool) (o : Option X) → cond b (Some x) o ≡ cond b (Some x) (cond b None o)
    twice true o = refl
    twice false o = refl

-- what is there is as it was put in
pub put_back : {X : Type 0} (m : fin.FinMap nat_cmp X) (k : ℕ) (x : X) → fin.get m k ≡ Some x → m ≡ fin.insert m k x
put_back {X = X} m k x there = fin.same_map nat_cmp_total fin.nat_cmp-IsAntisymmetric _ _ (λ q. pick q (cases_eq q k) ∙ sym (found_in m k x q))
  where
    pick : (q : ℕ) → (q ≡ k) ⊎ (q ≡ k → ⊥) → fin.get m q ≡ cond (nat_eq q k) (Some x) (fin.get m q)
    pick q (inl e) = ap (fin.get m) e ∙ there ∙ sym (ap (λ b. cond b (Some x) (fin.get m q)) (eq-eqb q k e))
    pick q (inr n) = sym (ap (λ b. cond b (Some x) (fin.get m q)) (ne_eqb q k n))

-- nothing is taken away where nothing is
pub none_taken : {X : Type 0} (m : fin.FinMap nat_cmp X) (k : ℕ) → fin.get m k ≡ None → fin.remove m k ≡ m
none_taken {X = X} m k none = fin.same_map nat_cmp_total fin.nat_cmp-IsAntisymmetric _ _ (λ q. left_in m k q ∙ pick q (cases_eq q k))
  where
    pick : (q : ℕ) → (q ≡ k) ⊎ (q ≡ k → ⊥) → cond (nat_eq q k) None (fin.get m q) ≡ fin.get m q
    pick q (inl e) = ap (λ b. cond b None (fin.get m q)) (eq-eqb q k e) ∙ sym (ap (fin.get m) e ∙ none)
    pick q (inr n) = ap (λ b. cond b None (fin.get m q)) (ne_eqb q k n)

-- ---- files
put_in : (files : StagedFiles) (number : ℕ) (staged : StagedContent) → blocks_in (fin.insert files number staged) ≡ blocks_of staged + blocks_in (fin.remove files number)
put_in files number staged =
    ap blocks_in (put_afresh files number staged)
    ∙ ap (λ es. sum_by blocks_of (map (λ (e : ℕ × StagedContent). e.1) es)) (fin.entries-insert nat_cmp_total (fin.remove files number) number staged)
    ∙ sum-put blocks_of number staged (fin.entries (fin.remove files number)) (sym (fin.get-entries (fin.remove files number) number) ∙ left_here files number)

pub ends_count : (files : StagedFiles) (number : ℕ) → blocks_in (fin.remove files number) + blocks_at files number ≡ blocks_in files
ends_count files number = pick (fin.get files number) refl
  where
    pick : (o : Option StagedContent) → fin.get files number ≡ o → blocks_in (fin.remove files number) + option_map_or blocks_of (fin.get files number) 0 ≡ blocks_in files
    pick None e =
        let same = ap blocks_in (none_taken files number e) in
        let at : ◌≡◌ {A = ℕ} (option_map_or blocks_of (fin.get files number) 0) 0 = ap (λ o. option_map_or blocks_of o 0) e in
        omega arith
    pick (Some staged) e =
        let same = ap blocks_in (put_back files number staged e) ∙ put_in files number staged in
        let at : option_map_or blocks_of (fin.get files number) 0 ≡ blocks_of staged = ap (λ o. option_map_or blocks_of o 0) e in
        omega arith

pub puts_count : (files : StagedFiles) (number : ℕ) (staged : StagedContent) → blocks_in (fin.insert files number staged) + blocks_at files number ≡ blocks_in files + blocks_of staged
puts_count files number staged = let a = put_in files number staged in let b = ends_count files number in omega arith

-- where nothing is staged, none
pub blocks-empty : blocks_in fin.empty ≡ 0
blocks-empty = ap (λ es. sum_by blocks_of (map (λ (e : ℕ × StagedContent). e.1) es))
    (none_long (fin.entries {X = StagedContent} {R = nat_cmp} fin.empty) (sym (fin.len-entries fin.empty) ∙ fin.len-empty nat_cmp StagedContent))
  where
    none_long : {X : Type 0} (xs : List X) → length xs ≡ 0 → xs ≡ []
    none_long [] e = refl
    none_long (x ∷ xs) e = absurd (omega arith)
