-- How many blocks are touched: a write touches as many more as it needs, and a size change no more than there were.
use Rattle.std.proofs.Common.{◌≡◌, ℕ, zero, suc, ◌+◌, ◌-◌, ◌*◌, ◌<◌, ◌≤◌, Bool, true, false, cond, not, ◌||◌, List, [], ◌∷◌, ◌⊎◌, inl, inr, refl, ap, ◌∙◌, length, filter, nat_eq, nat_lt, arith}
use Rattle.std.proofs.lemmas.Bool.{cases_eq, cases_lt, eq-eqb, ne_eqb, lt-ltb, le-ltb, or_left, or_from}
use Rattle.staging_spec.specs.Blocks.{block_size, block_of, numbers_from, is_among, met, put_number, touch, untouch, AllOver, Rise}
use Rattle.staging_spec.specs.Staging.{needed}
use Rattle.staging_spec.proofs.StandingLaws.{rise_put, among_put, over_lower}

none_below : (ns : List ℕ) (p : ℕ) → AllOver p ns → is_among ns p ≡ false
none_below [] p over = refl
none_below (n ∷ ns) p over = or_from (nat_eq n p) (is_among ns p) (ne_eqb n p (λ e. let l = over.0 in omega arith)) (none_below ns p over.1)

length_put : (ns : List ℕ) (p : ℕ) → Rise ns → length (put_number ns p) ≡ length ns + cond (is_among ns p) 0 1
length_put [] p rise = refl
length_put (n ∷ ns) p rise = at (cases_lt p n) (cases_eq n p) (length_put ns p rise.1)
  where
    at : (p < n) ⊎ (n ≤ p) → (n ≡ p) ⊎ (n ≡ p → ⊥) → length (put_number ns p) ≡ length ns + cond (is_among ns p) 0 1
        → length (cond (nat_lt p n) (p ∷ n ∷ ns) (cond (nat_eq n p) (n ∷ ns) (n ∷ put_number ns p))) ≡ suc (length ns) + cond (nat_eq n p || is_among ns p) 0 1
    at (inl lt) u more =
        let first : length (cond (nat_lt p n) (p ∷ n ∷ ns) (cond (nat_eq n p) (n ∷ ns) (n ∷ put_number ns p))) ≡ suc (suc (length ns)) =
        ap (λ t. length (cond t (p ∷ n ∷ ns) (cond (nat_eq n p) (n ∷ ns) (n ∷ put_number ns p)))) (lt-ltb p n lt) in
        let last : ◌≡◌ {A = ℕ} (cond (nat_eq n p || is_among ns p) 0 1) 1 = ap (λ t. cond t 0 1) (none_below (n ∷ ns) p (lt, over_lower ns p n lt rise.0)) in
        omega arith
    at (inr ge) (inl e) more =
        let first : length (cond (nat_lt p n) (p ∷ n ∷ ns) (cond (nat_eq n p) (n ∷ ns) (n ∷ put_number ns p))) ≡ suc (length ns) =
        ap (λ t. length (cond t (p ∷ n ∷ ns) (cond (nat_eq n p) (n ∷ ns) (n ∷ put_number ns p)))) (le-ltb p n ge)
        ∙ ap (λ t. length (cond t (n ∷ ns) (n ∷ put_number ns p))) (eq-eqb n p e) in
        let last : ◌≡◌ {A = ℕ} (cond (nat_eq n p || is_among ns p) 0 1) 0 = ap (λ t. cond t 0 1) (or_left (nat_eq n p) (is_among ns p) (eq-eqb n p e)) in
        omega arith
    at (inr ge) (inr apart) more =
        let first : length (cond (nat_lt p n) (p ∷ n ∷ ns) (cond (nat_eq n p) (n ∷ ns) (n ∷ put_number ns p))) ≡ suc (length (put_number ns p)) =
        ap (λ t. length (cond t (p ∷ n ∷ ns) (cond (nat_eq n p) (n ∷ ns) (n ∷ put_number ns p)))) (le-ltb p n ge)
        ∙ ap (λ t. length (cond t (n ∷ ns) (n ∷ put_number ns p))) (ne_eqb n p apart) in
        let last : ◌≡◌ {A = ℕ} (cond (nat_eq n p || is_among ns p) 0 1) (cond (is_among ns p) 0 1) = ap (λ t. cond (t || is_among ns p) 0 1) (ne_eqb n p apart) in
        omega arith

-- numbers above one that is put among others are new where they were
new_ones : List ℕ → List ℕ → List ℕ
new_ones ns blocks = filter (λ block. not (is_among ns block)) blocks

new_put : (ns : List ℕ) (p : ℕ) (blocks : List ℕ) → AllOver p blocks → new_ones (put_number ns p) blocks ≡ new_ones ns blocks
unfolding new_ones
new_put ns p [] over = refl
new_put ns p (b ∷ bs) over =
    ap (λ t. cond (not t) (b ∷ filter (λ block. not (is_among (put_number ns p) block)) bs) (filter (λ block. not (is_among (put_number ns p) block)) bs))
    (among_put ns p b ∙ ap (λ t. t || is_among ns b) (ne_eqb p b (λ e. let l = over.0 in omega arith)))
    ∙ ap (λ more. cond (not (is_among ns b)) (b ∷ more) more) (new_put ns p bs over.1)

length_touch : (ns blocks : List ℕ) → Rise ns → Rise blocks → length (touch ns blocks) ≡ length ns + length (new_ones ns blocks)
unfolding new_ones
length_touch ns [] rise above = omega arith
length_touch ns (b ∷ bs) rise above =
    let more = length_touch (put_number ns b) bs (rise_put ns b rise) above.1 in
    let put = length_put ns b rise in
    let same = ap length (new_put ns b bs above.0) in
    let first = counted (is_among ns b) (filter (λ block. not (is_among ns block)) bs) in
    omega arith
  where
    counted : (t : Bool) (more : List ℕ) → length (cond (not t) (b ∷ more) more) ≡ cond t 0 1 + length more
    counted true more = omega arith
    counted false more = omega arith

rise_numbers : (first count : ℕ) → Rise (numbers_from first count)
rise_numbers first zero = tt
rise_numbers first (suc count) = (over first (first + 1) count (omega arith), rise_numbers (first + 1) count)
  where
    over : (low first count : ℕ) → low < first → AllOver low (numbers_from first count)
    over low first zero lt = tt
    over low first (suc count) lt = (lt, over low (first + 1) count (omega arith))

rise_met : (first count : ℕ) → Rise (met first count)
rise_met first zero = tt
rise_met first (suc count) = rise_numbers (block_of first) (block_of (first + count) + 1 - block_of first)

-- a write touches as many blocks more as it needs
pub write_counts : (touched : List ℕ) (first count : ℕ) → Rise touched → length (touch touched (met first count)) ≡ length touched + needed touched first count
unfolding new_ones
write_counts touched first count rise = length_touch touched (met first count) rise (rise_met first count)

-- a size change touches none
pub resize_counts : (touched : List ℕ) (size : ℕ) → length (untouch touched size) ≤ length touched
resize_counts [] size = omega arith
resize_counts (n ∷ ns) size = pick (nat_lt (n * block_size) size) (resize_counts ns size)
  where
    pick : (t : Bool) → length (untouch ns size) ≤ length ns → length (cond t (n ∷ untouch ns size) (untouch ns size)) ≤ suc (length ns)
    pick true le = omega arith
    pick false le = omega arith
