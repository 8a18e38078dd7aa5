-- Writing and resizing keep what stands over a source, and touch no more blocks than they should.
use Rattle.std.proofs.Common.{◌≡◌, ℕ, zero, suc, ◌+◌, ◌-◌, ◌*◌, ◌/◌, ◌<◌, ◌≤◌, min, Bool, true, false, cond, ◌||◌, List, [], ◌∷◌, ◌++◌, ◌⊎◌, inl, inr}
use Rattle.std.proofs.Common.{refl, sym, ap, subst, ◌∙◌, length, take, drop, get_or, filter, replicate, nat_eq, nat_lt, arith, length-append, length-take}
use Rattle.std.proofs.lemmas.Bool.{false≢true, cases_eq, cases_lt, eq-eqb, ne_eqb, lt-ltb, le-ltb, ltb-true, or_left, or_right}
use Rattle.std.proofs.lemmas.List.{get_or_append_left, get_or-append_right, get_or-take, get_or-drop, get_or_past}
use Rattle.staging_spec.specs.Blocks.{block_size, numbers_from, is_among, met, put_number, touch, untouch, AllOver, Rise}
use Rattle.staging_spec.specs.Content.{zeros, patch}
use Rattle.staging_spec.specs.Staging.{Staging, written, resized}
use Rattle.staging_spec.specs.Overlays.{source_byte, StandsOver}
use Rattle.staging_spec.proofs.ContentLaws.{length-zeros, length-resize, length-patch}

-- ---- numbers that rise
pub over_lower : (ns : List ℕ) (low high : ℕ) → low < high → AllOver high ns → AllOver low ns
over_lower [] low high lt over = tt
over_lower (n ∷ ns) low high lt over = ((let l = over.0 in omega arith), over_lower ns low high lt over.1)

over_left : (test : ℕ → Bool) (ns : List ℕ) (low : ℕ) → AllOver low ns → AllOver low (filter test ns)
over_left test [] low over = tt
over_left test (n ∷ ns) low over = pick (test n) (over_left test ns low over.1)
  where
    pick : (t : Bool) → AllOver low (filter test ns) → AllOver low (cond t (n ∷ filter test ns) (filter test ns))
    pick true more = (over.0, more)
    pick false more = more

rise_left : (test : ℕ → Bool) (ns : List ℕ) → Rise ns → Rise (filter test ns)
rise_left test [] rise = tt
rise_left test (n ∷ ns) rise = pick (test n) (rise_left test ns rise.1)
  where
    pick : (t : Bool) → Rise (filter test ns) → Rise (cond t (n ∷ filter test ns) (filter test ns))
    pick true more = (over_left test ns n rise.0, more)
    pick false more = more

over_put : (ns : List ℕ) (low p : ℕ) → AllOver low ns → low < p → AllOver low (put_number ns p)
over_put [] low p over lt = (lt, tt)
over_put (n ∷ ns) low p over lt = pick (nat_lt p n) (nat_eq n p) (over_put ns low p over.1 lt)
  where
    pick : (t u : Bool) → AllOver low (put_number ns p) → AllOver low (cond t (p ∷ n ∷ ns) (cond u (n ∷ ns) (n ∷ put_number ns p)))
    pick true u more = (lt, over)
    pick false true more = over
    pick false false more = (over.0, more)

pub rise_put : (ns : List ℕ) (p : ℕ) → Rise ns → Rise (put_number ns p)
rise_put [] p rise = (tt, tt)
rise_put (n ∷ ns) p rise = below (cases_lt p n) (cases_eq n p) (rise_put ns p rise.1)
  where
    below : (p < n) ⊎ (n ≤ p) → (n ≡ p) ⊎ (n ≡ p → ⊥) → Rise (put_number ns p) → Rise (cond (nat_lt p n) (p ∷ n ∷ ns) (cond (nat_eq n p) (n ∷ ns) (n ∷ put_number ns p)))
    below (inl lt) u more =
        subst (λ t. Rise (cond t (p ∷ n ∷ ns) (cond (nat_eq n p) (n ∷ ns) (n ∷ put_number ns p)))) (sym (lt-ltb p n lt)) ((lt, over_lower ns p n lt rise.0), rise)
    below (inr ge) (inl e) more =
        subst (λ t. Rise (cond t (p ∷ n ∷ ns) (cond (nat_eq n p) (n ∷ ns) (n ∷ put_number ns p)))) (sym (le-ltb p n ge))
        (subst (λ t. Rise (cond t (n ∷ ns) (n ∷ put_number ns p))) (sym (eq-eqb n p e)) rise)
    below (inr ge) (inr apart) more =
        subst (λ t. Rise (cond t (p ∷ n ∷ ns) (cond (nat_eq n p) (n ∷ ns) (n ∷ put_number ns p)))) (sym (le-ltb p n ge))
        (subst (λ t. Rise (cond t (n ∷ ns) (n ∷ put_number ns p))) (sym (ne_eqb n p apart)) (over_put ns n p rise.0 (omega arith), more))

rise_touch : (ns blocks : List ℕ) → Rise ns → Rise (touch ns blocks)
rise_touch ns [] rise = rise
rise_touch ns (b ∷ bs) rise = rise_touch (put_number ns b) bs (rise_put ns b rise)

-- ---- what is among them
among_kept : (test : ℕ → Bool) (ns : List ℕ) (q : ℕ) → is_among ns q ≡ true → test q ≡ true → is_among (filter test ns) q ≡ true
among_kept test [] q t k = absurd (false≢true t)
among_kept test (n ∷ ns) q t k = decide (cases_eq n q) (λ u. among_kept test ns q u k)
  where
    here : (n ≡ q) → (u : Bool) → u ≡ true → is_among (cond u (n ∷ filter test ns) (filter test ns)) q ≡ true
    here e true same = or_left (nat_eq n q) (is_among (filter test ns) q) (eq-eqb n q e)
    here e false same = absurd (false≢true same)

    later : (u : Bool) → is_among (filter test ns) q ≡ true → is_among (cond u (n ∷ filter test ns) (filter test ns)) q ≡ true
    later true more = or_right (nat_eq n q) (is_among (filter test ns) q) more
    later false more = more

    decide : (n ≡ q) ⊎ (n ≡ q → ⊥) → (is_among ns q ≡ true → is_among (filter test ns) q ≡ true) → is_among (cond (test n) (n ∷ filter test ns) (filter test ns)) q ≡ true
    decide (inl e) more = here e (test n) (ap test e ∙ k)
    decide (inr apart) more = later (test n) (more (sym (ap (λ u. u || is_among ns q) (ne_eqb n q apart)) ∙ t))

among_left : (test : ℕ → Bool) (ns : List ℕ) (q : ℕ) → is_among (filter test ns) q ≡ true → (is_among ns q ≡ true) × (test q ≡ true)
among_left test [] q t = absurd (false≢true t)
among_left test (n ∷ ns) q t = pick (test n) refl t (among_left test ns q)
  where
    pick : (u : Bool) → test n ≡ u → is_among (cond u (n ∷ filter test ns) (filter test ns)) q ≡ true
        → (is_among (filter test ns) q ≡ true → (is_among ns q ≡ true) × (test q ≡ true)) → (is_among (n ∷ ns) q ≡ true) × (test q ≡ true)
    pick true same t more = at (cases_eq n q)
      where
        at : (n ≡ q) ⊎ (n ≡ q → ⊥) → (is_among (n ∷ ns) q ≡ true) × (test q ≡ true)
        at (inl e) = (or_left (nat_eq n q) (is_among ns q) (eq-eqb n q e), ap test (sym e) ∙ same)
        at (inr apart) =
            let m = more (sym (ap (λ u. u || is_among (filter test ns) q) (ne_eqb n q apart)) ∙ t) in (or_right (nat_eq n q) (is_among ns q) m.0, m.1)
    pick false same t more = let m = more t in (or_right (nat_eq n q) (is_among ns q) m.0, m.1)

pub among_put : (ns : List ℕ) (p q : ℕ) → is_among (put_number ns p) q ≡ (nat_eq p q || is_among ns q)
among_put [] p q = refl
among_put (n ∷ ns) p q = pick (nat_lt p n) (cases_eq n p) (among_put ns p q)
  where
    swap : (a b c : Bool) → (a || (b || c)) ≡ (b || (a || c))
    swap true true c = refl
    swap true false c = refl
    swap false true c = refl
    swap false false c = refl

    twice : (a c : Bool) → (a || c) ≡ (a || (a || c))
    twice true c = refl
    twice false c = refl

    pick : (t : Bool) → (n ≡ p) ⊎ (n ≡ p → ⊥) → is_among (put_number ns p) q ≡ (nat_eq p q || is_among ns q)
        → is_among (cond t (p ∷ n ∷ ns) (cond (nat_eq n p) (n ∷ ns) (n ∷ put_number ns p))) q ≡ (nat_eq p q || is_among (n ∷ ns) q)
    pick true u more = refl
    pick false (inl e) more =
        ap (λ t. is_among (cond t (n ∷ ns) (n ∷ put_number ns p)) q) (eq-eqb n p e) ∙ twice (nat_eq n q) (is_among ns q) ∙ ap (λ k. nat_eq k q || (nat_eq n q || is_among ns q)) e
    pick false (inr apart) more =
        ap (λ t. is_among (cond t (n ∷ ns) (n ∷ put_number ns p)) q) (ne_eqb n p apart) ∙ ap (λ t. nat_eq n q || t) more ∙ swap (nat_eq n q) (nat_eq p q) (is_among ns q)

among_touch : (ns blocks : List ℕ) (q : ℕ) → is_among (touch ns blocks) q ≡ true → (is_among ns q ≡ true) ⊎ (is_among blocks q ≡ true)
among_touch ns [] q t = inl t
among_touch ns (b ∷ bs) q t = at (among_touch (put_number ns b) bs q t)
  where
    first : (u : Bool) → nat_eq b q ≡ u → (u || is_among ns q) ≡ true → (is_among ns q ≡ true) ⊎ (is_among (b ∷ bs) q ≡ true)
    first true e t = inr (or_left (nat_eq b q) (is_among bs q) e)
    first false e t = inl t

    at : (is_among (put_number ns b) q ≡ true) ⊎ (is_among bs q ≡ true) → (is_among ns q ≡ true) ⊎ (is_among (b ∷ bs) q ≡ true)
    at (inl u) = first (nat_eq b q) refl (sym (among_put ns b q) ∙ u)
    at (inr u) = inr (or_right (nat_eq b q) (is_among bs q) u)

touched_stays : (ns blocks : List ℕ) (q : ℕ) → is_among ns q ≡ true → is_among (touch ns blocks) q ≡ true
touched_stays ns [] q t = t
touched_stays ns (b ∷ bs) q t = touched_stays (put_number ns b) bs q (among_put ns b q ∙ or_right (nat_eq b q) (is_among ns q) t)

met_touched : (ns blocks : List ℕ) (q : ℕ) → is_among blocks q ≡ true → is_among (touch ns blocks) q ≡ true
met_touched ns [] q t = absurd (false≢true t)
met_touched ns (b ∷ bs) q t = at (cases_eq b q) (met_touched (put_number ns b) bs q)
  where
    at : (b ≡ q) ⊎ (b ≡ q → ⊥) → (is_among bs q ≡ true → is_among (touch (put_number ns b) bs) q ≡ true) → is_among (touch (put_number ns b) bs) q ≡ true
    at (inl e) more = touched_stays (put_number ns b) bs q (among_put ns b q ∙ or_left (nat_eq b q) (is_among ns q) (eq-eqb b q e))
    at (inr apart) more = more (sym (ap (λ u. u || is_among bs q) (ne_eqb b q apart)) ∙ t)

among_numbers : (first count q : ℕ) → first ≤ q → q < first + count → is_among (numbers_from first count) q ≡ true
among_numbers first zero q le lt = absurd (omega arith)
among_numbers first (suc count) q le lt = at (cases_eq first q) (among_numbers (first + 1) count q)
  where
    at : (first ≡ q) ⊎ (first ≡ q → ⊥) → (first + 1 ≤ q → q < (first + 1) + count → is_among (numbers_from (first + 1) count) q ≡ true) → is_among (numbers_from first (suc count)) q ≡ true
    at (inl e) more = or_left (nat_eq first q) (is_among (numbers_from (first + 1) count) q) (eq-eqb first q e)
    at (inr apart) more = or_right (nat_eq first q) (is_among (numbers_from (first + 1) count) q) (more (omega arith) (omega arith))

numbers_within : (first count q : ℕ) → is_among (numbers_from first count) q ≡ true → q < first + count
numbers_within first zero q t = absurd (false≢true t)
numbers_within first (suc count) q t = at (cases_eq first q) (numbers_within (first + 1) count q)
  where
    at : (first ≡ q) ⊎ (first ≡ q → ⊥) → (is_among (numbers_from (first + 1) count) q ≡ true → q < (first + 1) + count) → q < first + suc count
    at (inl e) more = omega arith
    at (inr apart) more = let m = more (sym (ap (λ u. u || is_among (numbers_from (first + 1) count) q) (ne_eqb first q apart)) ∙ t) in omega arith

not_true : (b : Bool) → b ≡ false → b ≡ true → ⊥
not_true b f t = false≢true (sym f ∙ t)

must_not : (b : Bool) → (b ≡ true → ⊥) → b ≡ false
must_not true n = absurd (n refl)
must_not false n = refl

-- ---- bytes
get_zeros : (count k : ℕ) → get_or (zeros count) k 0 ≡ 0
unfolding zeros
get_zeros zero k = get_or_past (replicate zero 0) k 0 (omega arith)
get_zeros (suc count) zero = refl
get_zeros (suc count) (suc k) = get_zeros count k

-- a content at another length has its bytes, and zeros behind them
get_front : (content : List ℕ) (size k : ℕ) → k < size → get_or (take size content ++ zeros (size - length content)) k 0 ≡ get_or content k 0
get_front content size k lt = at (cases_lt k (length content))
  where
    at : (k < length content) ⊎ (length content ≤ k) → get_or (take size content ++ zeros (size - length content)) k 0 ≡ get_or content k 0
    at (inl low) =
        let n = length-take size content in
        get_or_append_left (take size content) (zeros (size - length content)) 0 k (omega arith) ∙ get_or-take size content k 0 lt
    at (inr high) =
        let n = length-take size content in
        get_or-append_right (take size content) (zeros (size - length content)) (length (take size content)) k 0 refl (omega arith)
        ∙ get_zeros (size - length content) (k - length (take size content)) ∙ sym (get_or_past content k 0 high)

-- a patched content has its bytes outside what is written, and zeros in a gap
module _ (content : List ℕ) (offset byte : ℕ) (bytes : List ℕ) where
  all : List ℕ
  all = byte ∷ bytes

  head : List ℕ
  head = (take offset content ++ zeros (offset - length content)) ++ (byte ∷ bytes)

  length-head : length head ≡ offset + length (byte ∷ bytes)
  unfolding head
  length-head =
      let a = length-append (take offset content ++ zeros (offset - length content)) (byte ∷ bytes) in
      let b = length-append (take offset content) (zeros (offset - length content)) in
      let d = length-take offset content in
      let e = length-zeros (offset - length content) in
      omega arith

  get_outside : (k : ℕ) → (k < offset) ⊎ (offset + length (byte ∷ bytes) ≤ k) → get_or (patch content offset (byte ∷ bytes)) k 0 ≡ get_or content k 0
  unfolding head
  get_outside k (inl lt) =
      let n = length-head in
      let a = length-append (take offset content) (zeros (offset - length content)) in
      let b = length-take offset content in
      let d = length-zeros (offset - length content) in
      get_or_append_left ((take offset content ++ zeros (offset - length content)) ++ (byte ∷ bytes)) (drop (offset + length (byte ∷ bytes)) content) 0 k (omega arith)
      ∙ get_or_append_left (take offset content ++ zeros (offset - length content)) (byte ∷ bytes) 0 k (omega arith) ∙ get_front content offset k lt
  get_outside k (inr ge) =
      let n = length-head in
      get_or-append_right ((take offset content ++ zeros (offset - length content)) ++ (byte ∷ bytes)) (drop (offset + length (byte ∷ bytes)) content) (offset + length (byte ∷ bytes)) k 0 n ge
      ∙ get_or-drop (offset + length (byte ∷ bytes)) content (k - (offset + length (byte ∷ bytes))) 0
      ∙ ap (λ j. get_or content j 0) (let e : (offset + length (byte ∷ bytes)) + (k - (offset + length (byte ∷ bytes))) ≡ k = omega arith in e)

-- what stands in no touched block, also behind the end
module _ (source : List ℕ) (staging : Staging) (over : StandsOver source staging) where
  at_rest : (i : ℕ) → is_among staging.touched (i / 65536) ≡ false → get_or staging.content i 0 ≡ source_byte staging.limit source i
  at_rest i f = pick (cases_lt i (length staging.content))
    where
      pick : (i < length staging.content) ⊎ (length staging.content ≤ i) → get_or staging.content i 0 ≡ source_byte staging.limit source i
      pick (inl lt) = over.rest i lt f
      pick (inr ge) =
          get_or_past staging.content i 0 ge
          ∙ sym (ap (λ t. cond t (get_or source i 0) 0) (le-ltb i staging.limit (let l = over.limits.1 in omega arith)))

  pub resized_stands : (size : ℕ) → StandsOver source (resized staging size)
  resized_stands size = record {
    limits = ((let l = over.limits.0 in omega arith), (let n = length-resize staging.content size in omega arith));
    rise = rise_left (λ block. nat_lt (block * block_size) size) staging.touched over.rise;
    inside = λ b t.
        let m = among_left (λ block. nat_lt (block * block_size) size) staging.touched b t in
        let lt = ltb-true (b * block_size) size m.1 in
        let n = length-resize staging.content size in
        omega arith;
    rest = λ i lt f.
        let n = length-resize staging.content size in
        let low : i < size = omega arith in
        get_front staging.content size i low
        ∙ at_rest i (must_not (is_among staging.touched (i / 65536)) (λ t. not_true (is_among (untouch staging.touched size) (i / 65536)) f
        (among_kept (λ block. nat_lt (block * block_size) size) staging.touched (i / 65536) t (lt-ltb (i / 65536 * block_size) size (omega arith)))))
        ∙ lower i low;
  }
    where
      lower : (i : ℕ) → i < size → source_byte staging.limit source i ≡ source_byte (min staging.limit size) source i
      lower i lt = pick (cases_lt i staging.limit)
        where
          pick : (i < staging.limit) ⊎ (staging.limit ≤ i) → source_byte staging.limit source i ≡ source_byte (min staging.limit size) source i
          pick (inl low) =
              ap (λ t. cond t (get_or source i 0) 0) (lt-ltb i staging.limit low)
              ∙ sym (ap (λ t. cond t (get_or source i 0) 0) (lt-ltb i (min staging.limit size) (omega arith)))
          pick (inr high) =
              ap (λ t. cond t (get_or source i 0) 0) (le-ltb i staging.limit high)
              ∙ sym (ap (λ t. cond t (get_or source i 0) 0) (le-ltb i (min staging.limit size) (omega arith)))

  pub written_stands : (offset : ℕ) (bytes : List ℕ) → StandsOver source (written staging offset bytes)
  written_stands offset [] = over
  written_stands offset (byte ∷ bytes) = record {
    limits = (over.limits.0, (let l = over.limits.1 in let n = length-patch staging.content offset byte bytes in omega arith));
    rise = rise_touch staging.touched (met offset (length (byte ∷ bytes))) over.rise;
    inside = λ b t. within b (among_touch staging.touched (met offset (length (byte ∷ bytes))) b t);
    rest = λ i lt f.
        get_outside staging.content offset byte bytes i (outside i f (cases_lt i offset) (cases_lt i (offset + length (byte ∷ bytes))))
        ∙ at_rest i (must_not (is_among staging.touched (i / 65536)) (λ t. not_true (is_among (touch staging.touched (met offset (length (byte ∷ bytes)))) (i / 65536)) f
        (touched_stays staging.touched (met offset (length (byte ∷ bytes))) (i / 65536) t)));
  }
    where
      within : (b : ℕ) → (is_among staging.touched b ≡ true) ⊎ (is_among (met offset (length (byte ∷ bytes))) b ≡ true) → b * block_size < length (patch staging.content offset (byte ∷ bytes))
      within b (inl t) = let i = over.inside b t in let n = length-patch staging.content offset byte bytes in omega arith
      within b (inr t) =
          let m = numbers_within (offset / 65536) ((offset + length bytes) / 65536 + 1 - offset / 65536) b t in
          let n = length-patch staging.content offset byte bytes in
          omega arith

      outside : (i : ℕ) → is_among (touch staging.touched (met offset (length (byte ∷ bytes)))) (i / 65536) ≡ false → (i < offset) ⊎ (offset ≤ i)
          → (i < offset + length (byte ∷ bytes)) ⊎ (offset + length (byte ∷ bytes) ≤ i) → (i < offset) ⊎ (offset + length (byte ∷ bytes) ≤ i)
      outside i f (inl lt) upper = inl lt
      outside i f (inr ge) (inr past) = inr past
      outside i f (inr ge) (inl lt) =
          absurd (not_true (is_among (touch staging.touched (met offset (length (byte ∷ bytes)))) (i / 65536)) f
          (met_touched staging.touched (met offset (length (byte ∷ bytes))) (i / 65536)
          (among_numbers (offset / 65536) ((offset + length bytes) / 65536 + 1 - offset / 65536) (i / 65536) (omega arith) (omega arith))))
