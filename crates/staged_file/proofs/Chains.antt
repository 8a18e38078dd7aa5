-- What stands where after a change of a chain: bytes put, a block of zeros more, blocks cut off.
use Rattle.std.proofs.Common.{◌≡◌, ◌≢◌, ℕ, suc, ◌+◌, ◌-◌, ◌*◌, ◌/◌, ◌%◌, ◌<◌, ◌≤◌, Bool, true, false, cond, List, [], ◌∷◌, ◌++◌, ◌⊎◌, inl, inr, Option, None, Some, IsSome}
use Rattle.std.proofs.Common.{refl, sym, ap, subst, ◌∙◌, length, take, drop, get_or, nat_eq, nat_lt, arith, length-take-le}
use Rattle.std.proofs.lemmas.Bool.{false≢true, cases_eq, cases_lt, eq-eqb, ne_eqb, lt-ltb, le-ltb}
use Rattle.std.proofs.lemmas.List.{get_or_append_left, get_or-append_right, get_or-take, get_or-drop}
use Rattle.std.specs.FinMap as fin
use Rattle.std.specs.Map.{set_value}
use Rattle.std.specs.Option.{unwrap_or}
use Rattle.staging_spec.specs.Content.{zeros}
use Rattle.block_pool.specs.Blocks.{overwritten}
use Rattle.block_pool.specs.Chains.{Entries, ChainMap, Rises, entries_of, with_chain, without, at, inserted, below, head_of}
use Rattle.block_pool.specs.Pool.{Pool, AllSized, IsPool, block_at, put_block, cut_chain, cut_head, write_block}
use Rattle.block_pool.proofs.Maps.{put_same}
use Rattle.staging_spec.specs.Overlays.{byte_in, source_byte}
use Rattle.staged_file.specs.Staged.{shown_byte, positions}
use Rattle.staged_file.specs.Steps.{Puts, Zeroes}
use Rattle.staged_file.proofs.Contents.{get-zeros}

-- ---- the entries of a changed chain
entries-with : (chains : ChainMap (List ℕ)) (head : ℕ) (es : Entries (List ℕ)) → entries_of (fin.insert chains head es) (Some head) ≡ es
entries-with chains head es = ap (λ o. unwrap_or o []) (put_same chains head es)

pub entries-put : (pool : Pool) (head new : Option ℕ) (position : ℕ) → IsSome new
    → entries_of (put_block pool head new position).chains new ≡ inserted (entries_of pool.chains head) position (zeros 65536)
entries-put pool head None position some = absurd (false≢true some)
entries-put pool head (Some new) position some = entries-with (without pool.chains head) new (inserted (entries_of pool.chains head) position (zeros 65536))

pub entries-written : (pool : Pool) (head : Option ℕ) (position first : ℕ) (bytes : List ℕ) → IsSome (at (entries_of pool.chains head) position)
    → entries_of (write_block pool head position first bytes).chains head ≡ set_value (nat_eq position) (entries_of pool.chains head) (overwritten (block_at pool.chains head position) first bytes)
entries-written pool None position first bytes some = absurd (false≢true some)
entries-written pool (Some head) position first bytes some =
    entries-with (without pool.chains (Some head)) head (set_value (nat_eq position) (entries_of pool.chains (Some head)) (overwritten (block_at pool.chains (Some head) position) first bytes))

pub entries-cut : (pool : Pool) (head new : Option ℕ) (position : ℕ) → new ≡ cut_head pool.chains head position
    → entries_of (cut_chain pool head new position).chains new ≡ below (entries_of pool.chains head) position
entries-cut pool None new position e = subst (λ n. entries_of (cut_chain pool None n position).chains n ≡ []) (sym e) refl
entries-cut pool (Some head) new position e =
    subst (λ n. entries_of (cut_chain pool (Some head) n position).chains n ≡ below (entries_of pool.chains (Some head)) position) (sym e) (given (below (entries_of pool.chains (Some head)) position))
  where
    given : (fs : Entries (List ℕ)) → entries_of (with_chain (fin.remove pool.chains head) (head_of head fs) fs) (head_of head fs) ≡ fs
    given [] = refl
    given (f ∷ fs) = entries-with (fin.remove pool.chains head) head (f ∷ fs)

-- ---- entries of a chain that is the pool's
rises_given : (o : Option (Entries (List ℕ))) → ((es : Entries (List ℕ)) → o ≡ Some es → Rises es) → Rises (unwrap_or o [])
rises_given None f = tt
rises_given (Some es) f = f es refl

pub chain-rises : (pool : Pool) (head : Option ℕ) → IsPool pool → Rises (entries_of pool.chains head)
chain-rises pool None is = tt
chain-rises pool (Some head) is = rises_given (fin.get pool.chains head) (is.rising head)

sized_given : (o : Option (Entries (List ℕ))) → ((es : Entries (List ℕ)) → o ≡ Some es → AllSized es) → AllSized (unwrap_or o [])
sized_given None f = tt
sized_given (Some es) f = f es refl

pub chain-sized : (pool : Pool) (head : Option ℕ) → IsPool pool → AllSized (entries_of pool.chains head)
chain-sized pool None is = tt
chain-sized pool (Some head) is = sized_given (fin.get pool.chains head) (is.sized head)

pub sized-at : (es : Entries (List ℕ)) (p : ℕ) → AllSized es → IsSome (at es p) → length (unwrap_or (at es p) []) ≡ 65536
sized-at [] p all some = absurd (false≢true some)
sized-at (e ∷ es) p all some = step (nat_eq p e.0) some (sized-at es p all.1)
  where
    step : (t : Bool) → IsSome (cond t (Some e.1) (at es p)) → (IsSome (at es p) → length (unwrap_or (at es p) []) ≡ 65536) → length (unwrap_or (cond t (Some e.1) (at es p)) []) ≡ 65536
    step true some more = all.0
    step false some more = more some

-- ---- what is found at a position
pub at-inserted : (es : Entries (List ℕ)) (p : ℕ) (v : List ℕ) → at es p ≡ None → at (inserted es p v) p ≡ Some v
at-inserted [] p v none = ap (λ t. cond t (Some v) None) (eq-eqb p p refl)
at-inserted (e ∷ es) p v none = step (nat_lt p e.0) none (at-inserted es p v)
  where
    apart : (t : Bool) → cond t (Some e.1) (at es p) ≡ None → (at es p ≡ None → at (inserted es p v) p ≡ Some v) → cond t (Some e.1) (at (inserted es p v) p) ≡ Some v
    apart true none more = absurd (let f : Some e.1 ≡ None = none in cc)
    apart false none more = more none

    step : (t : Bool) → cond (nat_eq p e.0) (Some e.1) (at es p) ≡ None → (at es p ≡ None → at (inserted es p v) p ≡ Some v) → at (cond t ((p, v) ∷ e ∷ es) (e ∷ inserted es p v)) p ≡ Some v
    step true none more = ap (λ t. cond t (Some v) (at (e ∷ es) p)) (eq-eqb p p refl)
    step false none more = apart (nat_eq p e.0) none more

pub at-inserted_other : (es : Entries (List ℕ)) (p q : ℕ) (v : List ℕ) → q ≢ p → at (inserted es p v) q ≡ at es q
at-inserted_other [] p q v n = ap (λ t. cond t (Some v) None) (ne_eqb q p n)
at-inserted_other (e ∷ es) p q v n = step (nat_lt p e.0) (at-inserted_other es p q v n)
  where
    step : (t : Bool) → at (inserted es p v) q ≡ at es q → at (cond t ((p, v) ∷ e ∷ es) (e ∷ inserted es p v)) q ≡ at (e ∷ es) q
    step true more = ap (λ t. cond t (Some v) (at (e ∷ es) q)) (ne_eqb q p n)
    step false more = ap (λ o. cond (nat_eq q e.0) (Some e.1) o) more

pub at-set : (es : Entries (List ℕ)) (p : ℕ) (v : List ℕ) → IsSome (at es p) → at (set_value (nat_eq p) es v) p ≡ Some v
at-set [] p v some = absurd (false≢true some)
at-set (e ∷ es) p v some = step (nat_eq p e.0) refl some (at-set es p v)
  where
    step : (t : Bool) → nat_eq p e.0 ≡ t → IsSome (cond t (Some e.1) (at es p)) → (IsSome (at es p) → at (set_value (nat_eq p) es v) p ≡ Some v)
        → at (cond t ((e.0, v) ∷ es) (e ∷ set_value (nat_eq p) es v)) p ≡ Some v
    step true e some more = ap (λ t. cond t (Some v) (at es p)) e
    step false f some more = ap (λ t. cond t (Some e.1) (at (set_value (nat_eq p) es v) p)) f ∙ more some

pub at-set_other : (es : Entries (List ℕ)) (p q : ℕ) (v : List ℕ) → q ≢ p → at (set_value (nat_eq p) es v) q ≡ at es q
at-set_other [] p q v n = refl
at-set_other (e ∷ es) p q v n = step (cases_eq p e.0) (at-set_other es p q v n)
  where
    step : (p ≡ e.0) ⊎ (p ≡ e.0 → ⊥) → at (set_value (nat_eq p) es v) q ≡ at es q → at (cond (nat_eq p e.0) ((e.0, v) ∷ es) (e ∷ set_value (nat_eq p) es v)) q ≡ at (e ∷ es) q
    step (inl s) more =
        ap (λ t. at (cond t ((e.0, v) ∷ es) (e ∷ set_value (nat_eq p) es v)) q) (eq-eqb p e.0 s)
        ∙ ap (λ t. cond t (Some v) (at es q)) (ne_eqb q e.0 (λ f. n (f ∙ sym s))) ∙ sym (ap (λ t. cond t (Some e.1) (at es q)) (ne_eqb q e.0 (λ f. n (f ∙ sym s))))
    step (inr d) more = ap (λ t. at (cond t ((e.0, v) ∷ es) (e ∷ set_value (nat_eq p) es v)) q) (ne_eqb p e.0 d) ∙ ap (λ o. cond (nat_eq q e.0) (Some e.1) o) more

pub at-below : (es : Entries (List ℕ)) (p q : ℕ) → q < p → at (below es p) q ≡ at es q
at-below [] p q lt = refl
at-below (e ∷ es) p q lt = step (cases_lt e.0 p) (at-below es p q lt)
  where
    step : (e.0 < p) ⊎ (p ≤ e.0) → at (below es p) q ≡ at es q → at (cond (nat_lt e.0 p) (e ∷ below es p) (below es p)) q ≡ at (e ∷ es) q
    step (inl l) more = ap (λ t. at (cond t (e ∷ below es p) (below es p)) q) (lt-ltb e.0 p l) ∙ ap (λ o. cond (nat_eq q e.0) (Some e.1) o) more
    step (inr g) more = ap (λ t. at (cond t (e ∷ below es p) (below es p)) q) (le-ltb e.0 p g) ∙ more ∙ sym (ap (λ t. cond t (Some e.1) (at es q)) (ne_eqb q e.0 (λ f. absurd (omega arith))))

pub at-below_none : (es : Entries (List ℕ)) (p q : ℕ) → p ≤ q → at (below es p) q ≡ None
at-below_none [] p q le = refl
at-below_none (e ∷ es) p q le = step (cases_lt e.0 p) (at-below_none es p q le)
  where
    step : (e.0 < p) ⊎ (p ≤ e.0) → at (below es p) q ≡ None → at (cond (nat_lt e.0 p) (e ∷ below es p) (below es p)) q ≡ None
    step (inl l) more = ap (λ t. at (cond t (e ∷ below es p) (below es p)) q) (lt-ltb e.0 p l) ∙ ap (λ t. cond t (Some e.1) (at (below es p) q)) (ne_eqb q e.0 (λ f. absurd (omega arith))) ∙ more
    step (inr g) more = ap (λ t. at (cond t (e ∷ below es p) (below es p)) q) (le-ltb e.0 p g) ∙ more

-- ---- a block with other bytes from a place on
module _ (block : List ℕ) (first : ℕ) (bytes : List ℕ) (fits : first + length bytes ≤ length block) where
  pub get-below : (k : ℕ) → k < first → get_or (overwritten block first bytes) k 0 ≡ get_or block k 0
  get-below k lt =
      let n = length-take-le first block (omega arith) in
      get_or_append_left (take first block) (bytes ++ drop (first + length bytes) block) 0 k (omega arith) ∙ get_or-take first block k 0 lt

  pub get-inside : (k : ℕ) → first ≤ k → k < first + length bytes → get_or (overwritten block first bytes) k 0 ≡ get_or bytes (k - first) 0
  get-inside k le lt =
      get_or-append_right (take first block) (bytes ++ drop (first + length bytes) block) first k 0 (length-take-le first block (omega arith)) le
      ∙ get_or_append_left bytes (drop (first + length bytes) block) 0 (k - first) (omega arith)

  pub get-above : (k : ℕ) → first + length bytes ≤ k → get_or (overwritten block first bytes) k 0 ≡ get_or block k 0
  get-above k le =
      get_or-append_right (take first block) (bytes ++ drop (first + length bytes) block) first k 0 (length-take-le first block (omega arith)) (omega arith)
      ∙ get_or-append_right bytes (drop (first + length bytes) block) (length bytes) (k - first) 0 refl (omega arith)
      ∙ get_or-drop (first + length bytes) block ((k - first) - length bytes) 0
      ∙ ap (λ n. get_or block n 0) (let e : (first + length bytes) + ((k - first) - length bytes) ≡ k = omega arith in e)

-- ---- what stands where
-- bytes are put into a block
module _ (es fs : Entries (List ℕ)) (limit : ℕ) (source : List ℕ) (p first : ℕ) (bytes : List ℕ) (all : AllSized es) (some : IsSome (at es p)) (fits : first + length bytes ≤ 65536)
    (e : fs ≡ set_value (nat_eq p) es (overwritten (unwrap_or (at es p) []) first bytes)) where
  abbrev block : List ℕ
  block = unwrap_or (at es p) []

  long : first + length bytes ≤ length block
  long = let s = sized-at es p all some in omega arith

  found : at fs p ≡ Some (overwritten block first bytes)
  found = ap (λ es. at es p) e ∙ at-set es p (overwritten block first bytes) some

  here : (i : ℕ) → i / 65536 ≡ p → shown_byte fs limit source i ≡ get_or (overwritten block first bytes) (i % 65536) 0
  here i q = ap (λ o. byte_in o limit source i) (ap (at fs) q ∙ found)

  was : (i : ℕ) → i / 65536 ≡ p → shown_byte es limit source i ≡ get_or block (i % 65536) 0
  was i q = ap (λ n. byte_in (at es n) limit source i) q ∙ given (at es p) some
    where
      given : (o : Option (List ℕ)) → IsSome o → byte_in o limit source i ≡ get_or (unwrap_or o []) (i % 65536) 0
      given None some = absurd (false≢true some)
      given (Some b) some = refl

  elsewhere : (i : ℕ) → (i / 65536 ≡ p → get_or (overwritten block first bytes) (i % 65536) 0 ≡ get_or block (i % 65536) 0) → (i / 65536 ≡ p) ⊎ (i / 65536 ≡ p → ⊥)
      → shown_byte fs limit source i ≡ shown_byte es limit source i
  elsewhere i same (inl q) = here i q ∙ same q ∙ sym (was i q)
  elsewhere i same (inr n) = ap (λ o. byte_in o limit source i) (ap (λ es. at es (i / 65536)) e ∙ at-set_other es p (i / 65536) (overwritten block first bytes) n)

  pub puts-set : Puts (shown_byte es limit source) (shown_byte fs limit source) (p * 65536 + first) (p * 65536 + first + length bytes) (p * 65536 + first) bytes
  puts-set = record {
    inside = λ i a b. let q : i / 65536 ≡ p = omega arith in here i q ∙ get-inside block first bytes long (i % 65536) (omega arith) (omega arith) ∙ ap (λ k. get_or bytes k 0) (omega arith);
    below = λ i lt. elsewhere i (λ q. get-below block first bytes long (i % 65536) (omega arith)) (cases_eq (i / 65536) p);
    above = λ i le. elsewhere i (λ q. get-above block first bytes long (i % 65536) (omega arith)) (cases_eq (i / 65536) p);
  }

-- a block of zeros more
pub zeroes-inserted : (es fs : Entries (List ℕ)) (limit : ℕ) (source : List ℕ) (p : ℕ) → at es p ≡ None → fs ≡ inserted es p (zeros 65536)
    → Zeroes (shown_byte es limit source) (shown_byte fs limit source) p
zeroes-inserted es fs limit source p none e = record {
  inside = λ i q. ap (λ o. byte_in o limit source i) (ap (at fs) q ∙ ap (λ es. at es p) e ∙ at-inserted es p (zeros 65536) none) ∙ get-zeros 65536 (i % 65536);
  other = λ i n. ap (λ o. byte_in o limit source i) (ap (λ es. at es (i / 65536)) e ∙ at-inserted_other es p (i / 65536) (zeros 65536) n);
}

-- what stands in a block that is not touched
pub shown_source : (es : Entries (List ℕ)) (limit : ℕ) (source : List ℕ) (i : ℕ) → at es (i / 65536) ≡ None → shown_byte es limit source i ≡ source_byte limit source i
shown_source es limit source i none = ap (λ o. byte_in o limit source i) none

pub length-inserted : (es : Entries (List ℕ)) (p : ℕ) (v : List ℕ) → length (inserted es p v) ≡ length es + 1
length-inserted [] p v = refl
length-inserted (e ∷ es) p v = step (nat_lt p e.0) (length-inserted es p v)
  where
    step : (t : Bool) → length (inserted es p v) ≡ length es + 1 → length (cond t ((p, v) ∷ e ∷ es) (e ∷ inserted es p v)) ≡ suc (length es) + 1
    step true more = omega arith
    step false more = omega arith

pub length-set_one : (es : Entries (List ℕ)) (p : ℕ) (v : List ℕ) → length (set_value (nat_eq p) es v) ≡ length es
length-set_one [] p v = refl
length-set_one (e ∷ es) p v = step (nat_eq p e.0) (length-set_one es p v)
  where
    step : (t : Bool) → length (set_value (nat_eq p) es v) ≡ length es → length (cond t ((e.0, v) ∷ es) (e ∷ set_value (nat_eq p) es v)) ≡ suc (length es)
    step true more = refl
    step false more = ap suc more

pub positions-set : (es : Entries (List ℕ)) (p : ℕ) (v : List ℕ) → positions (set_value (nat_eq p) es v) ≡ positions es
positions-set [] p v = refl
positions-set (e ∷ es) p v = step (nat_eq p e.0) (positions-set es p v)
  where
    step : (t : Bool) → positions (set_value (nat_eq p) es v) ≡ positions es → positions (cond t ((e.0, v) ∷ es) (e ∷ set_value (nat_eq p) es v)) ≡ e.0 ∷ positions es
    step true more = refl
    step false more = ap (λ ns. e.0 ∷ ns) more

pub length-below : (es : Entries (List ℕ)) (p : ℕ) → length (below es p) ≤ length es
length-below [] p = omega arith
length-below (e ∷ es) p = step (nat_lt e.0 p) (length-below es p)
  where
    step : (t : Bool) → length (below es p) ≤ length es → length (cond t (e ∷ below es p) (below es p)) ≤ suc (length es)
    step true more = omega arith
    step false more = omega arith
