-- From what passes a test along a range to the span of the numbers that pass it.
use Rattle.std.proofs.Common.{◌≡◌, ℕ, zero, suc, ◌+◌, ◌-◌, ◌<◌, ◌≤◌, Bool, true, false, cond, List, [], ◌∷◌, ◌⊎◌, inl, inr, refl, sym, ap, ◌∙◌, filter, arith}
use Rattle.std.proofs.lemmas.Bool.{false≢true, cases_lt, cases_eq}
use Rattle.staging_spec.specs.Blocks.{numbers_from}
use Rattle.staging_spec.specs.Wanted.{Range, last_of, span}
use Rattle.staged_file.specs.Spans.{Spans, IsRun}

-- ---- a run more
module _ (test : ℕ → Bool) (low mid high first end from upto : ℕ) (spans : Spans test low mid first end) (run : IsRun test low mid high from upto) where
  pub spans-none : upto ≤ from → Spans test low high first end
  spans-none le = record {
    outside = λ i a b t. at i a b t (cases_lt i mid);
    least = spans.least;
    most = λ lt. ((let m = (spans.most lt).0 in let r = run.ordered in omega arith), (spans.most lt).1);
    none = spans.none;
  }
    where
      at : (i : ℕ) → low ≤ i → i < high → test i ≡ true → (i < mid) ⊎ (mid ≤ i) → (first ≤ i) × (i < end)
      at i a b t (inl lt) = spans.outside i a lt t
      at i a b t (inr ge) = let r = run.passes i ge b t in absurd (let x = r.0 in let y = r.1 in omega arith)

  pub spans-first : from < upto → end ≡ 0 → Spans test low high from upto
  spans-first lt none = record {
    outside = λ i a b t. at i a b t (cases_lt i mid);
    least = λ l. ((let o = run.ordered in let p = run.inside lt in let x = p.0 in omega arith), run.all from (omega arith) lt);
    most = λ l. ((let p = run.inside lt in p.1), run.all (upto - 1) (omega arith) (omega arith));
    none = λ le. absurd (omega arith);
  }
    where
      at : (i : ℕ) → low ≤ i → i < high → test i ≡ true → (i < mid) ⊎ (mid ≤ i) → (from ≤ i) × (i < upto)
      at i a b t (inl l) = let r = spans.outside i a l t in absurd (let y = r.1 in omega arith)
      at i a b t (inr ge) = run.passes i ge b t

  pub spans-more : from < upto → (end ≡ 0 → ⊥) → Spans test low high first upto
  spans-more lt some = record {
    outside = λ i a b t. at i a b t (cases_lt i mid);
    least = λ l. spans.least was;
    most = λ l. ((let p = run.inside lt in p.1), run.all (upto - 1) (omega arith) (omega arith));
    none = λ le. absurd (let m = (spans.most was).0 in let p = run.inside lt in let x = p.0 in omega arith);
  }
    where
      was : first < end
      was = decide (cases_lt first end)
        where
          decide : (first < end) ⊎ (end ≤ first) → first < end
          decide (inl l) = l
          decide (inr le) = absurd (some (spans.none le).1)

      at : (i : ℕ) → low ≤ i → i < high → test i ≡ true → (i < mid) ⊎ (mid ≤ i) → (first ≤ i) × (i < upto)
      at i a b t (inl l) = let r = spans.outside i a l t in (r.0, (let y = (spans.most was).0 in let p = run.inside lt in let x = p.0 in let z = r.1 in omega arith))
      at i a b t (inr ge) = let r = run.passes i ge b t in ((let w = was in let y = (spans.most was).0 in omega arith), r.1)

-- nothing that passes is between
module _ (test : ℕ → Bool) (low mid high first end : ℕ) (spans : Spans test low mid first end) (more : mid ≤ high) (nothing : (i : ℕ) → mid ≤ i → i < high → test i ≡ true → ⊥) where
  pub spans-past : Spans test low high first end
  spans-past = record {
    outside = λ i a b t. at i a b t (cases_lt i mid);
    least = spans.least;
    most = λ lt. ((let m = (spans.most lt).0 in omega arith), (spans.most lt).1);
    none = spans.none;
  }
    where
      at : (i : ℕ) → low ≤ i → i < high → test i ≡ true → (i < mid) ⊎ (mid ≤ i) → (first ≤ i) × (i < end)
      at i a b t (inl lt) = spans.outside i a lt t
      at i a b t (inr ge) = absurd (nothing i ge b t)

pub spans-start : (test : ℕ → Bool) (low : ℕ) → Spans test low low 0 0
spans-start test low = record { outside = λ i a b t. absurd (omega arith); least = λ lt. absurd (omega arith); most = λ lt. absurd (omega arith); none = λ le. (refl, refl) }

pub spans-ordered : (test : ℕ → Bool) (low high first end : ℕ) → Spans test low high first end → first ≤ end
spans-ordered test low high first end spans = decide (cases_lt first end)
  where
    decide : (first < end) ⊎ (end ≤ first) → first ≤ end
    decide (inl lt) = omega arith
    decide (inr le) = let n = spans.none le in omega (arith, n.0, n.1)

-- ---- as the span of a list
-- the last number that passes
last_is : (test : ℕ → Bool) (end m from count : ℕ) → ((i : ℕ) → from ≤ i → i < from + count → test i ≡ true → i < end)
    → ((m + 1 ≡ end) × (end ≤ from)) ⊎ ((from < end) × (end ≤ from + count) × (test (end - 1) ≡ true)) → last_of m (filter test (numbers_from from count)) + 1 ≡ end
last_is test end m from zero outside (inl e) = e.0
last_is test end m from zero outside (inr e) = absurd (let a = e.0 in let b = e.1 in omega arith)
last_is test end m from (suc count) outside known = step (test from) refl (last_is test end m (from + 1) count later) (last_is test end from (from + 1) count later) known
  where
    later : (i : ℕ) → from + 1 ≤ i → i < (from + 1) + count → test i ≡ true → i < end
    later i a b t = outside i (omega arith) (omega arith) t

    step : (t : Bool) → test from ≡ t
        → (((m + 1 ≡ end) × (end ≤ from + 1)) ⊎ ((from + 1 < end) × (end ≤ (from + 1) + count) × (test (end - 1) ≡ true)) → last_of m (filter test (numbers_from (from + 1) count)) + 1 ≡ end)
        → (((from + 1 ≡ end) × (end ≤ from + 1)) ⊎ ((from + 1 < end) × (end ≤ (from + 1) + count) × (test (end - 1) ≡ true)) → last_of from (filter test (numbers_from (from + 1) count)) + 1 ≡ end)
        → ((m + 1 ≡ end) × (end ≤ from)) ⊎ ((from < end) × (end ≤ from + suc count) × (test (end - 1) ≡ true))
        → last_of m (cond t (from ∷ filter test (numbers_from (from + 1) count)) (filter test (numbers_from (from + 1) count))) + 1 ≡ end
    step true e skip take (inl k) = absurd (let lt = outside from (omega arith) (omega arith) e in let le = k.1 in omega arith)
    step true e skip take (inr k) = decide (cases_lt (from + 1) end)
      where
        decide : (from + 1 < end) ⊎ (end ≤ from + 1) → last_of from (filter test (numbers_from (from + 1) count)) + 1 ≡ end
        decide (inl lt) = take (inr (lt, (let b = k.1 in omega arith), k.2))
        decide (inr le) = take (inl ((let a = k.0 in omega arith), le))
    step false e skip take (inl k) = skip (inl (k.0, (let le = k.1 in omega arith)))
    step false e skip take (inr k) = decide (cases_lt (from + 1) end)
      where
        here : end ≤ from + 1 → end - 1 ≡ from
        here le = let a = k.0 in omega arith

        decide : (from + 1 < end) ⊎ (end ≤ from + 1) → last_of m (filter test (numbers_from (from + 1) count)) + 1 ≡ end
        decide (inl lt) = skip (inr (lt, (let b = k.1 in omega arith), k.2))
        decide (inr le) = absurd (false≢true (sym e ∙ ap test (sym (here le)) ∙ k.2))

same_range : (a b c d : ℕ) → a ≡ c → b ≡ d → ◌≡◌ {A = Range} (record { first = a; count = b }) (record { first = c; count = d })
same_range a b c d e f i = record { first = e i; count = f i }

pub span_is : (test : ℕ → Bool) (low count first end : ℕ) → Spans test low (low + count) first end → span (filter test (numbers_from low count)) ≡ record { first = first; count = end - first }
span_is test low zero first end spans = decide (cases_lt first end)
  where
    decide : (first < end) ⊎ (end ≤ first) → ◌≡◌ {A = Range} (record { first = 0; count = 0 }) (record { first = first; count = end - first })
    decide (inl lt) = absurd (let a = (spans.least lt).0 in let b = (spans.most lt).0 in omega arith)
    decide (inr le) = let n = spans.none le in same_range 0 0 first (end - first) (sym n.0) (omega arith)
span_is test low (suc count) first end spans = step (test low) refl (span_is test (low + 1) count first end)
  where
    more : low + suc count ≡ (low + 1) + count
    more = omega arith

    step : (t : Bool) → test low ≡ t → (Spans test (low + 1) ((low + 1) + count) first end → span (filter test (numbers_from (low + 1) count)) ≡ record { first = first; count = end - first })
        → span (cond t (low ∷ filter test (numbers_from (low + 1) count)) (filter test (numbers_from (low + 1) count))) ≡ record { first = first; count = end - first }
    step true e rec =
        let here = spans.outside low (omega arith) (omega arith) e in
        let lt : first < end = (let a = here.0 in let b = here.1 in omega arith) in
        let same : low ≡ first = (let a = here.0 in let b = (spans.least lt).0 in omega arith) in
        let last = last_is test end low (low + 1) count (λ i a b t. (spans.outside i (omega arith) (omega arith) t).1) (decide lt (cases_lt (low + 1) end)) in
        same_range low (last_of low (filter test (numbers_from (low + 1) count)) + 1 - low) first (end - first) same (omega arith)
      where
        decide : first < end → (low + 1 < end) ⊎ (end ≤ low + 1) → ((low + 1 ≡ end) × (end ≤ low + 1)) ⊎ ((low + 1 < end) × (end ≤ (low + 1) + count) × (test (end - 1) ≡ true))
        decide lt (inl l) = inr (l, (let m = (spans.most lt).0 in omega arith), (spans.most lt).1)
        decide lt (inr le) = inl ((let a = (spans.least lt).0 in omega arith), le)
    step false e rec = rec (record {
      outside = λ i a b t. spans.outside i (omega arith) (omega arith) t;
      least = λ lt. (after lt (cases_eq first low), (spans.least lt).1);
      most = λ lt. ((let m = (spans.most lt).0 in omega arith), (spans.most lt).1);
      none = spans.none;
    })
      where
        after : first < end → (first ≡ low) ⊎ (first ≡ low → ⊥) → low + 1 ≤ first
        after lt (inl s) = absurd (false≢true (sym e ∙ ap test (sym s) ∙ (spans.least lt).1))
        after lt (inr n) = let a = (spans.least lt).0 in omega arith

-- ---- what a span reaches over
-- each number that passes lies in the span
pub span_reaches : (test : ℕ → Bool) (low count i : ℕ) → low ≤ i → i < low + count → test i ≡ true → (0 < (span (filter test (numbers_from low count))).count)
    × ((span (filter test (numbers_from low count))).first ≤ i) × (i < (span (filter test (numbers_from low count))).first + (span (filter test (numbers_from low count))).count)
span_reaches test low zero i a b t = absurd (omega arith)
span_reaches test low (suc count) i a b t = step (test low) refl (cases_eq i low) (λ n. span_reaches test (low + 1) count i (omega arith) (omega arith) t)
  where
    reach : (m : ℕ) → low ≤ m → (from many : ℕ) → low ≤ from → low ≤ last_of m (filter test (numbers_from from many))
    reach m h from zero le = h
    reach m h from (suc many) le = pick (test from) (reach m h (from + 1) many (omega arith)) (reach from le (from + 1) many (omega arith))
      where
        pick : (t : Bool) → low ≤ last_of m (filter test (numbers_from (from + 1) many)) → low ≤ last_of from (filter test (numbers_from (from + 1) many))
            → low ≤ last_of m (cond t (from ∷ filter test (numbers_from (from + 1) many)) (filter test (numbers_from (from + 1) many)))
        pick true x y = y
        pick false x y = x

    -- the last number does not depend on the one before, where there is one
    longer : (ns : List ℕ) → 0 < (span ns).count → i < (span ns).first + (span ns).count → (span ns).first ≤ i → i ≤ last_of low ns
    longer [] some lt le = absurd (omega arith)
    longer (n ∷ ns) some lt le = omega arith

    step : (t : Bool) → test low ≡ t → (i ≡ low) ⊎ (i ≡ low → ⊥)
        → ((i ≡ low → ⊥)
        → (0 < (span (filter test (numbers_from (low + 1) count))).count) × ((span (filter test (numbers_from (low + 1) count))).first ≤ i)
        × (i < (span (filter test (numbers_from (low + 1) count))).first + (span (filter test (numbers_from (low + 1) count))).count))
        → (0 < (span (cond t (low ∷ filter test (numbers_from (low + 1) count)) (filter test (numbers_from (low + 1) count)))).count)
        × ((span (cond t (low ∷ filter test (numbers_from (low + 1) count)) (filter test (numbers_from (low + 1) count)))).first ≤ i)
        × (i < (span (cond t (low ∷ filter test (numbers_from (low + 1) count)) (filter test (numbers_from (low + 1) count)))).first
        + (span (cond t (low ∷ filter test (numbers_from (low + 1) count)) (filter test (numbers_from (low + 1) count)))).count)
    step true e (inl s) rec = let le = reach low (omega arith) (low + 1) count (omega arith) in ((omega arith), (omega arith), (omega arith))
    step true e (inr n) rec =
        let r = rec n in
        let le = longer (filter test (numbers_from (low + 1) count)) r.0 r.2 r.1 in
        ((omega arith), (omega arith), (omega arith))
    step false e (inl s) rec = absurd (false≢true (sym e ∙ ap test (sym s) ∙ t))
    step false e (inr n) rec = rec n
