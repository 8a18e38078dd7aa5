-- The tally under each key of a map, after one change.
use Rattle.std.proofs.Common.{◌≡◌, ℕ, Bool, true, false, cond, List, Option, Some, None, refl, sym, ap, ◌∙◌, nat_eq, nat_cmp, unwrap_or}
use Rattle.std.proofs.lemmas.Bool.Decides.{Decides-eqb}
use Rattle.std.proofs.lemmas.Slice.Eq.{bytes_eq-Decides}
use Rattle.std.specs.Bool.{Decides}
use Rattle.std.specs.Cmp.Lexicographic.{slice_cmp}
use Rattle.std.specs.FinMap as fin
use Rattle.std.specs.Str.{bytes_eq}
use Rattle.std.specs.declared.cmp.Ordering.{Ordering}
use Rattle.spare_maps.proofs.FinMaps.{get-insert_number, get-remove_number, get-insert_name, get-remove_name}
use Rattle.claims.specs.declared.tally.Tally.{Tally}
use Rattle.claims.specs.TallyWords.{no_tally}
use Rattle.claims.specs.Tallies.{tally_in}

module _ {K : Type 0} {R : K → K → Ordering} (same : K → K → Bool) (decides : (q k : K) → Decides (same q k) (q ≡ k))
    (op : Tally → Tally → Tally) (op_none : (t : Tally) → op t no_tally ≡ t) (m : fin.FinMap R Tally) (k : K) (u : Tally) where
  -- what stands under a key once the one under k was changed by u
  changed : (o : Option Tally) → unwrap_or o no_tally ≡ op (tally_in m k) u → (q : K) → unwrap_or (cond (same q k) o (fin.get m q)) no_tally ≡ op (tally_in m q) (cond (same q k) u no_tally)
  changed o is q = by (same q k) refl
    where
      by : (b : Bool) → same q k ≡ b → unwrap_or (cond (same q k) o (fin.get m q)) no_tally ≡ op (tally_in m q) (cond (same q k) u no_tally)
      by true e = ap (λ b. unwrap_or (cond b o (fin.get m q)) no_tally) e ∙ is ∙ ap (λ x. op (tally_in m x) u) (sym ((decides q k).0 e)) ∙ ap (λ b. op (tally_in m q) (cond b u no_tally)) (sym e)
      by false e = ap (λ b. unwrap_or (cond b o (fin.get m q)) no_tally) e ∙ sym (op_none (tally_in m q)) ∙ ap (λ b. op (tally_in m q) (cond b u no_tally)) (sym e)

module _ (op : Tally → Tally → Tally) (op_none : (t : Tally) → op t no_tally ≡ t) where
  pub tally_in-insert_number : (m : fin.FinMap nat_cmp Tally) (k : ℕ) (u t : Tally) → t ≡ op (tally_in m k) u → (q : ℕ) → tally_in (fin.insert m k t) q ≡ op (tally_in m q) (cond (nat_eq q k) u no_tally)
  tally_in-insert_number m k u t is q = ap (λ o. unwrap_or o no_tally) (get-insert_number m k t q) ∙ changed nat_eq Decides-eqb op op_none m k u (Some t) is q

  pub tally_in-remove_number : (m : fin.FinMap nat_cmp Tally) (k : ℕ) (u : Tally) → no_tally ≡ op (tally_in m k) u → (q : ℕ) → tally_in (fin.remove m k) q ≡ op (tally_in m q) (cond (nat_eq q k) u no_tally)
  tally_in-remove_number m k u is q = ap (λ o. unwrap_or o no_tally) (get-remove_number m k q) ∙ changed nat_eq Decides-eqb op op_none m k u None is q

  pub tally_in-insert_name : (m : fin.FinMap (slice_cmp nat_cmp) Tally) (k : List ℕ) (u t : Tally) → t ≡ op (tally_in m k) u → (q : List ℕ) → tally_in (fin.insert m k t) q ≡ op (tally_in m q) (cond (bytes_eq q k) u no_tally)
  tally_in-insert_name m k u t is q = ap (λ o. unwrap_or o no_tally) (get-insert_name m k t q) ∙ changed bytes_eq bytes_eq-Decides op op_none m k u (Some t) is q

  pub tally_in-remove_name : (m : fin.FinMap (slice_cmp nat_cmp) Tally) (k : List ℕ) (u : Tally) → no_tally ≡ op (tally_in m k) u → (q : List ℕ) → tally_in (fin.remove m k) q ≡ op (tally_in m q) (cond (bytes_eq q k) u no_tally)
  tally_in-remove_name m k u is q = ap (λ o. unwrap_or o no_tally) (get-remove_name m k q) ∙ changed bytes_eq bytes_eq-Decides op op_none m k u None is q
