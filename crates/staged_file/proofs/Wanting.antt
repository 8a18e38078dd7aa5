-- The rest of each block that a READ or a WRITE wants, and the whole range.
use Rattle.std.proofs.Common.{◌≡◌, ℕ, ◌+◌, ◌-◌, ◌*◌, ◌/◌, ◌<◌, ◌≤◌, max, min, Bool, true, false, not, ◌&&◌, List, ◌⊎◌, inl, inr, sym, ap, subst, ◌∙◌, length, nat_lt}
use Rattle.std.proofs.Common.{nat_le, arith}
use Rattle.std.proofs.lemmas.Bool.{false≢true, cases_lt, lt-ltb, le-leb, ltb-true, not-true, and_from, and_parts}
use Rattle.staging_spec.specs.Blocks.{is_among, met}
use Rattle.staging_spec.specs.Wanted.{is_source, is_overwritten, wanted_by_read, wanted_by_write}
use Rattle.staged_file.specs.Spans.{Spans, IsRest}
use Rattle.staged_file.proofs.BlockByBlock.{last_block, length-met, not_over}
use Rattle.staged_file.proofs.Spans.{spans-past, spans-start, span_is}

module _ (touched : List ℕ) (limit : ℕ) where
  source_is : (i : ℕ) → i < limit → is_among touched (i / 65536) ≡ false → is_source touched limit i ≡ true
  source_is i lt none = and_from (nat_lt i limit) (not (is_among touched (i / 65536))) (lt-ltb i limit lt) (ap not none)

  source_parts : (i : ℕ) → is_source touched limit i ≡ true → (i < limit) × (is_among touched (i / 65536) ≡ false)
  source_parts i t = let p = and_parts (nat_lt i limit) (not (is_among touched (i / 65536))) t in (ltb-true i limit p.0, not-true (is_among touched (i / 65536)) p.1)

  -- ---- read
  module _ (first count end : ℕ) (end_is : end ≡ min limit (first + count)) where
    pub read-rest : (block from upto : ℕ) → from ≡ max first (block * 65536) → upto ≡ min end ((block + 1) * 65536)
        → IsRest (is_among touched block) (is_source touched limit) first (max first (min end (block * 65536))) (max first (min end ((block + 1) * 65536))) from upto
    read-rest block from upto from_is upto_is = record {
      ordered = ((omega arith), (omega arith));
      run = λ none. record {
        ordered = ((omega arith), (omega arith));
        inside = λ lt. ((omega arith), (omega arith));
        all = λ i a b. source_is i (omega arith) (ap (is_among touched) (at i a b) ∙ none);
        passes = λ i a b t. within i a b;
      };
      nothing = λ held i a b t. let w = within i a b in let p = source_parts i t in false≢true (sym p.1 ∙ ap (is_among touched) (at i w.0 w.1) ∙ held);
    }
      where
        at : (i : ℕ) → from ≤ i → i < upto → i / 65536 ≡ block
        at i a b = omega arith

        within : (i : ℕ) → max first (min end (block * 65536)) ≤ i → i < max first (min end ((block + 1) * 65536)) → (from ≤ i) × (i < upto)
        within i a b = ((omega arith), (omega arith))

    pub read-start : (low high : ℕ) → low ≡ 0 → high ≡ 0 → Spans (is_source touched limit) first (max first (min end (first / 65536 * 65536))) low high
    read-start low high e f =
        subst (λ n. Spans (is_source touched limit) first n low high) (let g : first ≡ max first (min end (first / 65536 * 65536)) = omega arith in g)
        (subst (λ n. Spans (is_source touched limit) first first n high) (sym e) (subst (λ n. Spans (is_source touched limit) first first 0 n) (sym f) (spans-start (is_source touched limit) first)))

    pub read-whole : (block low high : ℕ) → end ≤ block * 65536 → Spans (is_source touched limit) first (max first (min end (block * 65536))) low high
        → wanted_by_read touched limit first count ≡ record { first = low; count = high - low }
    read-whole block low high le spans = span_is (is_source touched limit) first count low high
        (spans-past (is_source touched limit) first (max first (min end (block * 65536))) (first + count) low high spans (omega arith)
        (λ i a b t. let p = source_parts i t in let l = p.0 in absurd (omega arith)))

  -- ---- write
  module _ (first count : ℕ) (some : 0 < count) where
    abbrev pub left : ℕ → Bool
    left byte = is_source touched limit byte && not (is_overwritten first count byte)

    left_is : (i : ℕ) → i < limit → is_among touched (i / 65536) ≡ false → (i < first) ⊎ (first + count ≤ i) → (is_source touched limit i && not (is_overwritten first count i)) ≡ true
    left_is i lt none out = and_from (is_source touched limit i) (not (is_overwritten first count i)) (source_is i lt none) (ap not (not_over first count i out))

    out_of : (i : ℕ) → is_overwritten first count i ≡ false → (i < first) ⊎ (first + count ≤ i)
    out_of i f = at (cases_lt i first) (cases_lt i (first + count))
      where
        at : (i < first) ⊎ (first ≤ i) → (i < first + count) ⊎ (first + count ≤ i) → (i < first) ⊎ (first + count ≤ i)
        at (inl lt) d = inl lt
        at (inr ge) (inr le) = inr le
        at (inr ge) (inl lt) = absurd (false≢true (sym f ∙ and_from (nat_le first i) (nat_lt i (first + count)) (le-leb first i ge) (lt-ltb i (first + count) lt)))

    left_parts : (i : ℕ) → (is_source touched limit i && not (is_overwritten first count i)) ≡ true → (i < limit) × (is_among touched (i / 65536) ≡ false) × ((i < first) ⊎ (first + count ≤ i))
    left_parts i t =
        let p = and_parts (is_source touched limit i) (not (is_overwritten first count i)) t in
        let q = source_parts i p.0 in
        (q.0, q.1, out_of i (not-true (is_overwritten first count i) p.1))

    -- what is left of the first block, before the range
    pub front-rest : (upto : ℕ) → upto ≡ min limit first → IsRest (is_among touched (first / 65536)) left (first / 65536 * 65536) (first / 65536 * 65536) (first + count) (first / 65536 * 65536) upto
    front-rest upto upto_is = record {
      ordered = ((omega arith), (omega arith));
      run = λ none. record {
        ordered = ((omega arith), (omega arith));
        inside = λ lt. ((omega arith), (omega arith));
        all = λ i a b. left_is i (omega arith) (ap (is_among touched) (at i a (omega arith)) ∙ none) (inl (omega arith));
        passes = λ i a b t. (a, below i b (left_parts i t).0 (left_parts i t).2);
      };
      nothing = λ held i a b t. let lt = below i b (left_parts i t).0 (left_parts i t).2 in false≢true (sym (left_parts i t).1 ∙ ap (is_among touched) (at i a (omega arith)) ∙ held);
    }
      where
        at : (i : ℕ) → first / 65536 * 65536 ≤ i → i < first → i / 65536 ≡ first / 65536
        at i a b = omega arith

        below : (i : ℕ) → i < first + count → i < limit → (i < first) ⊎ (first + count ≤ i) → i < upto
        below i b l (inl lt) = omega arith
        below i b l (inr ge) = absurd (omega arith)

    -- what is left of the last block, behind the range
    pub back-rest : (upto : ℕ) → upto ≡ min limit ((last_block first count + 1) * 65536)
        → IsRest (is_among touched (last_block first count)) left (first / 65536 * 65536) (first + count) ((last_block first count + 1) * 65536) (first + count) upto
    back-rest upto upto_is = record {
      ordered = ((omega arith), (omega arith));
      run = λ none. record {
        ordered = ((omega arith), (omega arith));
        inside = λ lt. ((omega arith), (omega arith));
        all = λ i a b. left_is i (omega arith) (ap (is_among touched) (at i a (omega arith)) ∙ none) (inr a);
        passes = λ i a b t. (a, (let l = (left_parts i t).0 in omega arith));
      };
      nothing = λ held i a b t. false≢true (sym (left_parts i t).1 ∙ ap (is_among touched) (at i a b) ∙ held);
    }
      where
        at : (i : ℕ) → first + count ≤ i → i < ((first + count - 1) / 65536 + 1) * 65536 → i / 65536 ≡ (first + count - 1) / 65536
        at i a b = omega arith

    pub left-start : (low high : ℕ) → low ≡ 0 → high ≡ 0 → Spans left (first / 65536 * 65536) (first / 65536 * 65536) low high
    left-start low high e f =
        subst (λ n. Spans left (first / 65536 * 65536) (first / 65536 * 65536) n high) (sym e)
        (subst (λ n. Spans left (first / 65536 * 65536) (first / 65536 * 65536) 0 n) (sym f) (spans-start left (first / 65536 * 65536)))

    -- both rests, taken one after the other
    pub both-rests : (a b d e f g upto over : ℕ) → a ≡ 0 → b ≡ 0 → upto ≡ min limit first → over ≡ min limit ((last_block first count + 1) * 65536)
        → (Spans left (first / 65536 * 65536) (first / 65536 * 65536) a b
        → IsRest (is_among touched (first / 65536)) left (first / 65536 * 65536) (first / 65536 * 65536) (first + count) (first / 65536 * 65536) upto
        → Spans left (first / 65536 * 65536) (first + count) d e)
        → (Spans left (first / 65536 * 65536) (first + count) d e
        → IsRest (is_among touched (last_block first count)) left (first / 65536 * 65536) (first + count) ((last_block first count + 1) * 65536) (first + count) over
        → Spans left (first / 65536 * 65536) ((last_block first count + 1) * 65536) f g)
        → Spans left (first / 65536 * 65536) ((last_block first count + 1) * 65536) f g
    both-rests a b d e f g upto over a_is b_is upto_is over_is one two = two (one (left-start a b a_is b_is) (front-rest upto upto_is)) (back-rest over over_is)

    pub write-whole : (low high : ℕ) → Spans left (first / 65536 * 65536) ((last_block first count + 1) * 65536) low high
        → wanted_by_write touched limit first count ≡ record { first = low; count = high - low }
    write-whole low high spans = span_is left (first / 65536 * 65536) (length (met first count) * 65536) low high
        (subst (λ n. Spans left (first / 65536 * 65536) n low high)
        (let len = length-met first count some in let e : (last_block first count + 1) * 65536 ≡ first / 65536 * 65536 + length (met first count) * 65536 = omega arith in e) spans)
