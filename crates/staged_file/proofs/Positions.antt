-- Touched blocks as numbers that rise: one more, those that are cut off, and those that a range newly meets.
use Rattle.std.proofs.Common.{◌≡◌, ◌≢◌, ℕ, zero, suc, ◌+◌, ◌-◌, ◌*◌, ◌<◌, ◌≤◌, Bool, true, false, cond, not, ◌||◌, List, [], ◌∷◌, ◌++◌, ◌⊎◌, inl, inr, Option, None, Some, IsTrue, is_some, refl}
use Rattle.std.proofs.Common.{sym, ap, subst, ◌∙◌, length, filter, nat_eq, nat_lt, arith}
use Rattle.std.proofs.lemmas.Bool.{false≢true, cases_eq, cases_Bool, eq-eqb, ne_eqb, lt-ltb, le-ltb, or_left}
use Rattle.block_pool.specs.Chains.{Entries, AllAbove, Rises, at, inserted, below}
use Rattle.staging_spec.specs.Blocks.{block_size, numbers_from, is_among, put_number, touch, untouch}
use Rattle.staged_file.specs.Staged.{positions}

either : {A B C : Type 0} → (A → C) → (B → C) → A ⊎ B → C
either f g (inl a) = f a
either f g (inr b) = g b

same_test : (a b : ℕ) → nat_eq a b ≡ nat_eq b a
same_test a b = either (λ e. eq-eqb a b e ∙ sym (eq-eqb b a (sym e))) (λ n. ne_eqb a b n ∙ sym (ne_eqb b a (λ p. n (sym p)))) (cases_eq a b)

-- ---- what is among numbers
-- a block is touched exactly where the chain has it
pub among-positions : (es : Entries (List ℕ)) (q : ℕ) → is_among (positions es) q ≡ is_some (at es q)
among-positions [] q = refl
among-positions (e ∷ es) q = ap (λ t. t || is_among (positions es) q) (same_test e.0 q) ∙ step (nat_eq q e.0) (among-positions es q)
  where
    step : (t : Bool) → is_among (positions es) q ≡ is_some (at es q) → (t || is_among (positions es) q) ≡ is_some (cond t (Some e.1) (at es q))
    step true more = refl
    step false more = more

pub none-among : (es : Entries (List ℕ)) (q : ℕ) → is_among (positions es) q ≡ false → at es q ≡ None
none-among es q f = given (at es q) (sym (among-positions es q) ∙ f)
  where
    given : (o : Option (List ℕ)) → is_some o ≡ false → o ≡ None
    given None e = refl
    given (Some b) e = absurd (false≢true (sym e))

-- ---- a number put in its place
pub among-put : (ns : List ℕ) (p q : ℕ) → q ≢ p → is_among (put_number ns p) q ≡ is_among ns q
among-put [] p q n = ap (λ t. t || false) (ne_eqb p q (λ e. n (sym e)))
among-put (m ∷ ns) p q n = step (nat_lt p m) (nat_eq m p) (among-put ns p q n)
  where
    step : (t u : Bool) → is_among (put_number ns p) q ≡ is_among ns q → is_among (cond t (p ∷ m ∷ ns) (cond u (m ∷ ns) (m ∷ put_number ns p))) q ≡ is_among (m ∷ ns) q
    step true u more = ap (λ t. t || is_among (m ∷ ns) q) (ne_eqb p q (λ e. n (sym e)))
    step false true more = refl
    step false false more = ap (λ t. nat_eq m q || t) more

pub put-among : (ns : List ℕ) (p : ℕ) → is_among (put_number ns p) p ≡ true
put-among [] p = ap (λ t. t || false) (eq-eqb p p refl)
put-among (m ∷ ns) p = step (nat_lt p m) (cases_Bool (nat_eq m p)) (put-among ns p)
  where
    step : (t : Bool) → (nat_eq m p ≡ true) ⊎ (nat_eq m p ≡ false) → is_among (put_number ns p) p ≡ true → is_among (cond t (p ∷ m ∷ ns) (cond (nat_eq m p) (m ∷ ns) (m ∷ put_number ns p))) p ≡ true
    step true u more = ap (λ t. t || is_among (m ∷ ns) p) (eq-eqb p p refl)
    step false (inl e) more = ap (λ t. is_among (cond t (m ∷ ns) (m ∷ put_number ns p)) p) e ∙ ap (λ t. t || is_among ns p) e
    step false (inr e) more = ap (λ t. is_among (cond t (m ∷ ns) (m ∷ put_number ns p)) p) e ∙ ap (λ t. t || is_among (put_number ns p) p) e ∙ more

-- what is among numbers with one more is it or was among them
pub among-either : (ns : List ℕ) (p q : ℕ) → IsTrue (is_among (put_number ns p) q) → (q ≡ p) ⊎ IsTrue (is_among ns q)
among-either ns p q t = decide (cases_eq q p)
  where
    decide : (q ≡ p) ⊎ (q ≡ p → ⊥) → (q ≡ p) ⊎ IsTrue (is_among ns q)
    decide (inl e) = inl e
    decide (inr n) = inr (sym (among-put ns p q n) ∙ t)

-- ---- of a chain
pub positions-inserted : (es : Entries (List ℕ)) (p : ℕ) (v : List ℕ) → is_among (positions es) p ≡ false → positions (inserted es p v) ≡ put_number (positions es) p
positions-inserted [] p v none = refl
positions-inserted (e ∷ es) p v none = step (nat_lt p e.0) (nat_eq e.0 p) none (positions-inserted es p v)
  where
    step : (t u : Bool) → (u || is_among (positions es) p) ≡ false → (is_among (positions es) p ≡ false → positions (inserted es p v) ≡ put_number (positions es) p)
        → positions (cond t ((p, v) ∷ e ∷ es) (e ∷ inserted es p v)) ≡ cond t (p ∷ e.0 ∷ positions es) (cond u (e.0 ∷ positions es) (e.0 ∷ put_number (positions es) p))
    step true u none more = refl
    step false true none more = absurd (false≢true (sym none))
    step false false none more = ap (λ ns. e.0 ∷ ns) (more none)

above_among : (p q : ℕ) (es : Entries (List ℕ)) → AllAbove p es → IsTrue (is_among (positions es) q) → p < q
above_among p q [] above t = absurd (false≢true t)
above_among p q (e ∷ es) above t = decide (cases_eq e.0 q) t (above_among p q es above.1)
  where
    decide : (e.0 ≡ q) ⊎ (e.0 ≡ q → ⊥) → (nat_eq e.0 q || is_among (positions es) q) ≡ true → (IsTrue (is_among (positions es) q) → p < q) → p < q
    decide (inl s) t more = subst (λ n. p < n) s above.0
    decide (inr n) t more = more (sym (ap (λ u. u || is_among (positions es) q) (ne_eqb e.0 q n)) ∙ t)

-- a block that is there already is put nowhere
pub positions-held : (es : Entries (List ℕ)) (p : ℕ) → Rises es → IsTrue (is_among (positions es) p) → put_number (positions es) p ≡ positions es
positions-held [] p rises t = absurd (false≢true t)
positions-held (e ∷ es) p rises t = decide (cases_eq e.0 p) t (positions-held es p rises.1)
  where
    decide : (e.0 ≡ p) ⊎ (e.0 ≡ p → ⊥) → (nat_eq e.0 p || is_among (positions es) p) ≡ true → (IsTrue (is_among (positions es) p) → put_number (positions es) p ≡ positions es)
        → put_number (positions (e ∷ es)) p ≡ positions (e ∷ es)
    decide (inl s) t more =
        ap (λ u. cond u (p ∷ e.0 ∷ positions es) (cond (nat_eq e.0 p) (e.0 ∷ positions es) (e.0 ∷ put_number (positions es) p))) (le-ltb p e.0 (omega arith))
        ∙ ap (λ u. cond u (e.0 ∷ positions es) (e.0 ∷ put_number (positions es) p)) (eq-eqb e.0 p s)
    decide (inr n) t more =
        let later : IsTrue (is_among (positions es) p) = sym (ap (λ u. u || is_among (positions es) p) (ne_eqb e.0 p n)) ∙ t in
        let lt = above_among e.0 p es rises.0 later in
        ap (λ u. cond u (p ∷ e.0 ∷ positions es) (cond (nat_eq e.0 p) (e.0 ∷ positions es) (e.0 ∷ put_number (positions es) p))) (le-ltb p e.0 (omega arith))
        ∙ ap (λ u. cond u (e.0 ∷ positions es) (e.0 ∷ put_number (positions es) p)) (ne_eqb e.0 p n)
        ∙ ap (λ ns. e.0 ∷ ns) (more later)

-- the blocks below a place are those that begin below a length
pub positions-below : (es : Entries (List ℕ)) (place size : ℕ) → ((b : ℕ) → nat_lt b place ≡ nat_lt (b * block_size) size) → positions (below es place) ≡ untouch (positions es) size
positions-below [] place size same = refl
positions-below (e ∷ es) place size same = step (nat_lt e.0 place) (nat_lt (e.0 * block_size) size) (same e.0) (positions-below es place size same)
  where
    step : (t u : Bool) → t ≡ u → positions (below es place) ≡ untouch (positions es) size
        → positions (cond t (e ∷ below es place) (below es place)) ≡ cond u (e.0 ∷ untouch (positions es) size) (untouch (positions es) size)
    step true true s more = ap (λ ns. e.0 ∷ ns) more
    step true false s more = absurd (false≢true (sym s))
    step false true s more = absurd (false≢true s)
    step false false s more = more

pub untouch-none : (ns : List ℕ) (size : ℕ) → ((b : ℕ) → IsTrue (is_among ns b) → b * block_size < size) → untouch ns size ≡ ns
untouch-none [] size inside = refl
untouch-none (n ∷ ns) size inside =
    ap (λ t. cond t (n ∷ untouch ns size) (untouch ns size)) (lt-ltb (n * block_size) size (inside n (or_left (nat_eq n n) (is_among ns n) (eq-eqb n n refl))))
    ∙ ap (λ ms. n ∷ ms) (untouch-none ns size (λ b t. inside b (later (nat_eq n b) (is_among ns b) t)))
  where
    later : (t u : Bool) → u ≡ true → (t || u) ≡ true
    later true u e = refl
    later false u e = e

-- ---- the blocks of a range, one after another
pub numbers-more : (first count : ℕ) → numbers_from first (count + 1) ≡ numbers_from first count ++ (first + count) ∷ []
numbers-more first count = ap (numbers_from first) (let e : count + 1 ≡ suc count = omega arith in e) ∙ at first count
  where
    at : (first count : ℕ) → numbers_from first (suc count) ≡ numbers_from first count ++ (first + count) ∷ []
    at first zero = ap (λ n. n ∷ []) (let e : first ≡ first + 0 = omega arith in e)
    at first (suc count) = ap (λ ns. first ∷ ns) (at (first + 1) count ∙ ap (λ n. numbers_from (first + 1) count ++ n ∷ []) (let e : (first + 1) + count ≡ first + suc count = omega arith in e))

touch-push : (ns ms : List ℕ) (p : ℕ) → touch ns (ms ++ p ∷ []) ≡ put_number (touch ns ms) p
touch-push ns [] p = refl
touch-push ns (m ∷ ms) p = touch-push (put_number ns m) ms p

pub touch-more : (ns : List ℕ) (first count : ℕ) → touch ns (numbers_from first (count + 1)) ≡ put_number (touch ns (numbers_from first count)) (first + count)
touch-more ns first count = ap (touch ns) (numbers-more first count) ∙ touch-push ns (numbers_from first count) (first + count)

-- blocks behind those that were touched are touched or not as before
pub among-touch : (ns : List ℕ) (first count q : ℕ) → first + count ≤ q → is_among (touch ns (numbers_from first count)) q ≡ is_among ns q
among-touch ns first zero q le = refl
among-touch ns first (suc count) q le = among-touch (put_number ns first) (first + 1) count q (omega arith) ∙ among-put ns first q (omega arith)

-- ---- how many are newly touched
abbrev pub new_ones : List ℕ → ℕ → ℕ → ℕ
new_ones ns first count = length (filter (λ block. not (is_among ns block)) (numbers_from first count))

filter-push : (p : ℕ → Bool) (ms : List ℕ) (n : ℕ) → length (filter p (ms ++ n ∷ [])) ≡ length (filter p ms) + cond (p n) 1 0
filter-push p [] n = given (p n)
  where
    given : (t : Bool) → length (cond t (n ∷ []) []) ≡ 0 + cond t 1 0
    given true = refl
    given false = refl
filter-push p (m ∷ ms) n = given (p m) (filter-push p ms n)
  where
    given : (t : Bool) → length (filter p (ms ++ n ∷ [])) ≡ length (filter p ms) + cond (p n) 1 0
        → length (cond t (m ∷ filter p (ms ++ n ∷ [])) (filter p (ms ++ n ∷ []))) ≡ length (cond t (m ∷ filter p ms) (filter p ms)) + cond (p n) 1 0
    given true more = omega arith
    given false more = more

pub new-more : (ns : List ℕ) (first count : ℕ) → new_ones ns first (count + 1) ≡ new_ones ns first count + cond (is_among ns (first + count)) 0 1
new-more ns first count = ap (λ ms. length (filter (λ block. not (is_among ns block)) ms)) (numbers-more first count)
    ∙ filter-push (λ block. not (is_among ns block)) (numbers_from first count) (first + count)
    ∙ ap (λ n. new_ones ns first count + n) (turned (is_among ns (first + count)))
  where
    turned : (t : Bool) → ◌≡◌ {A = ℕ} (cond (not t) 1 0) (cond t 0 1)
    turned true = refl
    turned false = refl

pub new-first : (ns : List ℕ) (first count : ℕ) → new_ones ns first (suc count) ≡ cond (is_among ns first) 0 1 + new_ones ns (first + 1) count
new-first ns first count = given (is_among ns first)
  where
    given : (t : Bool)
        → length (cond (not t) (first ∷ filter (λ block. not (is_among ns block)) (numbers_from (first + 1) count)) (filter (λ block. not (is_among ns block)) (numbers_from (first + 1) count)))
        ≡ cond t 0 1 + new_ones ns (first + 1) count
    given true = omega arith
    given false = omega arith

pub new-few : (ns : List ℕ) (first count : ℕ) → new_ones ns first count ≤ count
new-few ns first zero = omega arith
new-few ns first (suc count) = let e = new-first ns first count in let le = new-few ns (first + 1) count in at (is_among ns first) e le
  where
    at : (t : Bool) → new_ones ns first (suc count) ≡ cond t 0 1 + new_ones ns (first + 1) count → new_ones ns (first + 1) count ≤ count → new_ones ns first (suc count) ≤ suc count
    at true e le = omega arith
    at false e le = omega arith

-- the count goes on by one where a block is not touched
pub new-counted : (ns : List ℕ) (front block count : ℕ) (t : Bool) → front ≤ block → is_among ns block ≡ t → count ≡ new_ones ns front (block - front)
    → count + cond t 0 1 ≡ new_ones ns front (block + 1 - front)
new-counted ns front block count t le e c =
    ap (λ n. n + cond t 0 1) c ∙ ap (λ u. new_ones ns front (block - front) + cond u 0 1) (sym e ∙ ap (is_among ns) (let at : block ≡ front + (block - front) = omega arith in at))
    ∙ sym (new-more ns front (block - front)) ∙ ap (new_ones ns front) (let at : (block - front) + 1 ≡ block + 1 - front = omega arith in at)
