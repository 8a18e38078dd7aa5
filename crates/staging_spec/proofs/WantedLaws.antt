-- What is wanted of a source lies in it.
use Rattle.std.proofs.Common.{◌≡◌, ℕ, zero, suc, ◌+◌, ◌*◌, ◌<◌, ◌≤◌, Bool, true, false, cond, not, ◌&&◌, List, [], ◌∷◌, refl, subst, length, filter, nat_lt, arith}
use Rattle.std.proofs.lemmas.Bool.{and_parts, ltb-true}
use Rattle.staging_spec.specs.Blocks.{numbers_from, is_among, block_of, met, block_size}
use Rattle.staging_spec.specs.Wanted.{IsWithin, is_source, is_overwritten, last_of, span, wanted_by_read, wanted_by_write, wanted_by_flush}

-- numbers that lie below a limit and at or above a number
abbrev AllIn : ℕ → ℕ → List ℕ → Type 0
AllIn low limit [] = Unit {0}
AllIn low limit (n ∷ ns) = (low ≤ n) × (n < limit) × AllIn low limit ns

-- those of rising numbers that pass a test which only numbers below the limit pass
all_in : (test : ℕ → Bool) (limit : ℕ) → ((n : ℕ) → test n ≡ true → n < limit) → (low first count : ℕ) → low ≤ first → AllIn low limit (filter test (numbers_from first count))
all_in test limit below low first zero le = tt
all_in test limit below low first (suc count) le = at (test first) refl (all_in test limit below low (first + 1) count (omega arith))
  where
    at : (t : Bool) → test first ≡ t → AllIn low limit (filter test (numbers_from (first + 1) count))
        → AllIn low limit (cond t (first ∷ filter test (numbers_from (first + 1) count)) (filter test (numbers_from (first + 1) count)))
    at true e more = (le, below first e, more)
    at false e more = more

last_in : (low limit n : ℕ) (ns : List ℕ) → low ≤ n → n < limit → AllIn low limit ns → (low ≤ last_of n ns) × (last_of n ns < limit)
last_in low limit n [] le lt a = (le, lt)
last_in low limit n (m ∷ ns) le lt a = last_in low limit m ns a.0 a.1 a.2

-- the numbers rise from the first on
span_in : (limit : ℕ) (ns : List ℕ) → AllIn 0 limit ns → ((n : ℕ) (ms : List ℕ) → ns ≡ n ∷ ms → n ≤ last_of n ms) → IsWithin (span ns) limit
span_in limit [] a rises = omega arith
span_in limit (n ∷ ns) a rises = let l = last_in 0 limit n ns a.0 a.1 a.2 in let r = rises n ns refl in let less = l.1 in omega arith

-- the first of rising numbers that pass a test is at most the last
first_least : (test : ℕ → Bool) (first count : ℕ) (n : ℕ) (ms : List ℕ) → filter test (numbers_from first count) ≡ n ∷ ms → n ≤ last_of n ms
first_least test first zero n ms e = absurd (let f : [] ≡ n ∷ ms = e in cc)
first_least test first (suc count) n ms e = at (test first) e (first_least test (first + 1) count n ms)
  where
    rest : List ℕ
    rest = filter test (numbers_from (first + 1) count)

    unlimited : (n : ℕ) → test n ≡ true → n < n + 1
    unlimited n e = omega arith

    at : (t : Bool) → cond t (first ∷ filter test (numbers_from (first + 1) count)) (filter test (numbers_from (first + 1) count)) ≡ n ∷ ms
        → (filter test (numbers_from (first + 1) count) ≡ n ∷ ms → n ≤ last_of n ms) → n ≤ last_of n ms
    at true e more =
        let head : first ≡ n = cc in
        let tail : filter test (numbers_from (first + 1) count) ≡ ms = cc in
        subst (λ ks. n ≤ last_of n ks) tail (least (first + 1) count (subst (λ m. m ≤ first + 1) head (omega arith)))
      where
        least : (from many : ℕ) → n ≤ from → n ≤ last_of n (filter test (numbers_from from many))
        least from many le = above n (omega arith) from many le
          where
            above : (m : ℕ) → n ≤ m → (from many : ℕ) → n ≤ from → n ≤ last_of m (filter test (numbers_from from many))
            above m h from zero le = h
            above m h from (suc many) le = step (test from) (above m h (from + 1) many (omega arith)) (above from le (from + 1) many (omega arith))
              where
                step : (t : Bool) → n ≤ last_of m (filter test (numbers_from (from + 1) many)) → n ≤ last_of from (filter test (numbers_from (from + 1) many))
                    → n ≤ last_of m (cond t (from ∷ filter test (numbers_from (from + 1) many)) (filter test (numbers_from (from + 1) many)))
                step true a b = b
                step false a b = a
    at false e more = more e

source_below : (touched : List ℕ) (limit n : ℕ) → is_source touched limit n ≡ true → n < limit
source_below touched limit n e = ltb-true n limit (and_parts (nat_lt n limit) (not (is_among touched (block_of n))) e).0

-- what a READ, a WRITE or a FLUSH wants lies in the source
pub read_within : (touched : List ℕ) (limit first count : ℕ) → IsWithin (wanted_by_read touched limit first count) limit
read_within touched limit first count = span_in limit (filter (is_source touched limit) (numbers_from first count))
    (all_in (is_source touched limit) limit (source_below touched limit) 0 first count (omega arith)) (first_least (is_source touched limit) first count)

pub write_within : (touched : List ℕ) (limit first count : ℕ) → IsWithin (wanted_by_write touched limit first count) limit
write_within touched limit first count =
    let test : ℕ → Bool = λ n. is_source touched limit n && not (is_overwritten first count n) in
    let from = block_of first * block_size in
    let many = length (met first count) * block_size in
    span_in limit (filter test (numbers_from from many))
    (all_in test limit (λ n e. source_below touched limit n (and_parts (is_source touched limit n) (not (is_overwritten first count n)) e).0) 0 from many (omega arith)) (first_least test from many)

pub flush_within : (touched : List ℕ) (limit : ℕ) → IsWithin (wanted_by_flush touched limit) limit
flush_within touched limit = span_in limit (filter (is_source touched limit) (numbers_from 0 limit))
    (all_in (is_source touched limit) limit (source_below touched limit) 0 0 limit (omega arith)) (first_least (is_source touched limit) 0 limit)
