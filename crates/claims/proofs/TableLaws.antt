-- What the table keeps when a call's claims are added or dropped.
use Rattle.std.proofs.Common.{◌≡◌, ℕ, ◌+◌, ◌<◌, ◌^◌, false, List, [], ◌∷◌, map, length, Option, Some, None, refl, sym, ap, subst, ◌∙◌, inl, inr, nat_cmp, unwrap_or, arith}
use Rattle.std.specs.Cmp.Lexicographic.{slice_cmp}
use Rattle.std.specs.FinMap as fin
use Rattle.std.specs.List.{list_any}
use Rattle.spare_maps.proofs.FinMaps.{number_put, number_taken}
use Rattle.claim_spec.specs.declared.claim.Claim.{Claim}
use Rattle.claim_spec.specs.declared.claim.ClaimKey.{ClaimKey}
use Rattle.claim_spec.specs.declared.claim.ClaimKey.TheVariants.{Node, Name}
use Rattle.claim_spec.specs.Conflicts.{any_conflict, AreApart}
use Rattle.claim_spec.proofs.Apart.{AreApart-by_test, AreApart-swap}
use Rattle.claims.specs.declared.tally.Tally.{Tally}
use Rattle.claims.specs.HeldClaims.{IsTable}
use Rattle.claims.specs.TalliedTable.{IsTallied}
use Rattle.claims.specs.TallyWords.{no_tally, plus, less}
use Rattle.claims.specs.Tallies.{tally_at, tally_of, tally_of_all, size_of_all}
use Rattle.claims.proofs.TallySums.{plus_comm, plus_swap, less-plus}
use Rattle.claims.proofs.Totals.{none_got, total_by-insert, total_by-remove}

-- ---- numbers and conflicts
pub fresh : (held : fin.FinMap nat_cmp (List Claim)) (next : ℕ) → IsTable held next → fin.get held next ≡ None
fresh held next table = by (fin.get held next) refl
  where
    by : (o : Option (List Claim)) → fin.get held next ≡ o → fin.get held next ≡ None
    by None e = e
    by (Some claims) e = let below = table.given next claims e in absurd (omega arith)

-- a call that conflicts with none that is held
pub IsTable-insert : (held : fin.FinMap nat_cmp (List Claim)) (next later : ℕ) (wanted : List Claim) → IsTable held next → list_any (any_conflict wanted) (fin.values held) ≡ false → next < later
    → IsTable (fin.insert held next wanted) later
IsTable-insert held next later wanted table free rises = record {
  given = λ n claims e. elim (number_put held next wanted claims n e) [ inl new ↦ subst (λ k. k < later) (sym new.0) rises | inr old ↦ let below = table.given n claims old in omega arith ];
  apart = λ m n mine others differ a b. elim (number_put held next wanted mine m a) [
    | inl new ↦ elim (number_put held next wanted others n b) [
      | inl both ↦ absurd (differ (new.0 ∙ sym both.0))
      | inr old ↦ subst (λ claims. AreApart claims others) new.1 (beside n others old)
    ]
    | inr old ↦ elim (number_put held next wanted others n b) [
      | inl new ↦ subst (AreApart mine) new.1 (AreApart-swap wanted mine (beside m mine old))
      | inr both ↦ table.apart m n mine others differ old both
    ]
  ];
}
  where
    beside : (n : ℕ) (others : List Claim) → fin.get held n ≡ Some others → AreApart wanted others
    beside n others there = AreApart-by_test wanted others (none_got (any_conflict wanted) held n others free there)

pub IsTable-remove : (held : fin.FinMap nat_cmp (List Claim)) (next number : ℕ) → IsTable held next → IsTable (fin.remove held number) next
IsTable-remove held next number table = record {
  given = λ n claims e. table.given n claims (number_taken held number claims n e).1;
  apart = λ m n mine others differ a b. table.apart m n mine others differ (number_taken held number mine m a).1 (number_taken held number others n b).1;
}

-- ---- tallies
add_swap : (a b c : ℕ) → a + (b + c) ≡ b + (a + c)
add_swap a b c = omega arith

module _ (held : fin.FinMap nat_cmp (List Claim)) (nodes : fin.FinMap nat_cmp Tally) (names : fin.FinMap (slice_cmp nat_cmp) Tally) (next : ℕ) (was : IsTallied held nodes names next)
    (new_held : fin.FinMap nat_cmp (List Claim)) (new_nodes : fin.FinMap nat_cmp Tally) (new_names : fin.FinMap (slice_cmp nat_cmp) Tally) where
  -- a call's claims are added to the calls and to the tallies
  pub IsTallied-insert : (later : ℕ) (wanted : List Claim) → new_held ≡ fin.insert held next wanted
      → ((key : ClaimKey) → tally_at new_nodes new_names key ≡ plus (tally_at nodes names key) (tally_of key wanted))
      → list_any (any_conflict wanted) (fin.values held) ≡ false → later ≡ next + (length wanted + 1) → next + length wanted < 2 ^ 62 → IsTallied new_held new_nodes new_names later
  IsTallied-insert later wanted is adds free rises fits = record {
    table = subst (λ m. IsTable m later) (sym is) (IsTable-insert held next later wanted was.table free (omega arith));
    tallies = λ key.
        adds key
        ∙ ap (λ t. plus t (tally_of key wanted)) (was.tallies key)
        ∙ plus_comm (tally_of_all key (fin.values held)) (tally_of key wanted)
        ∙ sym (total_by-insert (tally_of key) plus no_tally plus_swap held next wanted (fresh held next was.table))
        ∙ ap (λ m. tally_of_all key (fin.values m)) (sym is);
    size = omega (arith, ap (λ m. size_of_all (fin.values m)) is, total_by-insert length (λ a b. a + b) 0 add_swap held next wanted (fresh held next was.table), was.size);
    bound = omega arith;
  }

  -- a call's claims are dropped from the calls and from the tallies
  pub IsTallied-remove : (number : ℕ) (claims : List Claim) → fin.get held number ≡ Some claims → new_held ≡ fin.remove held number
      → ((key : ClaimKey) → tally_at new_nodes new_names key ≡ less (tally_at nodes names key) (tally_of key claims)) → IsTallied new_held new_nodes new_names next
  IsTallied-remove number claims there is drops = record {
    table = subst (λ m. IsTable m next) (sym is) (IsTable-remove held next number was.table);
    tallies = λ key.
        drops key
        ∙ ap (λ t. less t (tally_of key claims)) (was.tallies key ∙ total_by-remove (tally_of key) plus no_tally plus_swap held number claims there)
        ∙ less-plus (tally_of key claims) (tally_of_all key (fin.values (fin.remove held number)))
        ∙ ap (λ m. tally_of_all key (fin.values m)) (sym is);
    size = omega (arith, ap (λ m. size_of_all (fin.values m)) is, total_by-remove length (λ a b. a + b) 0 add_swap held number claims there, was.size);
    bound = was.bound;
  }

-- nothing is held
no_values : {X : Type 0} → fin.values {R = nat_cmp} (fin.empty {X = X}) ≡ []
no_values {X} = ap (λ es. map (λ (e : ℕ × X). e.1) es) (no_length (fin.entries {X = X} {R = nat_cmp} fin.empty) (sym (fin.len-entries fin.empty) ∙ fin.len-empty nat_cmp X))
  where
    no_length : {Y : Type 0} (ys : List Y) → length ys ≡ 0 → ys ≡ []
    no_length [] e = refl
    no_length (y ∷ ys) e = absurd (omega arith)

pub IsTallied-empty : (held : fin.FinMap nat_cmp (List Claim)) (nodes : fin.FinMap nat_cmp Tally) (names : fin.FinMap (slice_cmp nat_cmp) Tally)
    → held ≡ fin.empty → nodes ≡ fin.empty → names ≡ fin.empty → IsTallied held nodes names 0
IsTallied-empty held nodes names a b c = record {
  table = record {
    given = λ n claims e. absurd (nothing n claims (ap (λ m. fin.get m n) (sym a) ∙ e));
    apart = λ m n mine others differ e f. absurd (nothing m mine (ap (λ k. fin.get k m) (sym a) ∙ e));
  };
  tallies = λ key. (λ i. tally_at (b i) (c i) key) ∙ none key ∙ sym (ap (tally_of_all key) (ap (λ m. fin.values m) a ∙ no_values));
  size = omega (arith, ap size_of_all (ap (λ m. fin.values m) a ∙ no_values));
  bound = omega arith;
}
  where
    nothing : (n : ℕ) (claims : List Claim) → fin.get {R = nat_cmp} fin.empty n ≡ Some claims → ⊥
    nothing n claims there = let none : fin.get {X = List Claim} {R = nat_cmp} fin.empty n ≡ None = fin.get-empty nat_cmp n in cc

    none : (key : ClaimKey) → tally_at fin.empty fin.empty key ≡ no_tally
    none (Node n) = ap (λ o. unwrap_or o no_tally) (fin.get-empty nat_cmp n)
    none (Name p) = ap (λ o. unwrap_or o no_tally) (fin.get-empty (slice_cmp nat_cmp) p)
