-- From links and bytes to what the pool shows.
use Rattle.std.proofs.Common.{◌≡◌, ◌≢◌, ℕ, zero, suc, ◌+◌, ◌<◌, ◌≤◌, Bool, true, false, cond, List, [], ◌∷◌, ◌++◌, ◌⊎◌, inl, inr, Option, None, Some, refl, sym, ap, subst, ◌∙◌, length, map}
use Rattle.std.proofs.Common.{get_or, set, take, drop, nat_eq, nat_lt, nat_cmp, arith, length-append}
use Rattle.std.proofs.lemmas.Bool.{cases_eq, eq-eqb, ne_eqb}
use Rattle.std.proofs.lemmas.List.{length-map, get_or-set_same, get_or-set_other, get_or_append_left, get_or_at, length-take-le, length-drop, length-set}
use Rattle.std.specs.Cmp.{nat_cmp_total}
use Rattle.std.specs.FinMap as fin
use Rattle.std.specs.Map.{set_value}
use Rattle.std.specs.Option.{unwrap_or, option_map}
use Rattle.std.specs.Ordering.{eq_by_cmp}
use Rattle.staging_spec.specs.Content.{zeros}
use Rattle.block_pool.specs.Blocks.{overwritten, readied}
use Rattle.block_pool.specs.Chains.{Entries, ChainMap, entries_of, without, replaced, at, inserted, below}
use Rattle.block_pool.specs.Links.{blocks_of}
use Rattle.block_pool.specs.Nodes.{Has, Once}
use Rattle.block_pool.specs.Pool.{filled, with_bytes, AllOf}
use Rattle.block_pool.proofs.Lists.{from_either}
use Rattle.block_pool.proofs.Maps.{put_same, put_other, taken_same, taken_other, same_numbers}
use Rattle.block_pool.proofs.Parts.{length-zeros}

-- ---- entries with bytes
pub at_filled : (blocks : List (List ℕ)) (es : Entries ℕ) (p : ℕ) → at (filled blocks es) p ≡ option_map (λ b. get_or blocks b []) (at es p)
at_filled blocks [] p = refl
at_filled blocks (e ∷ es) p = step (nat_eq p e.0) (at_filled blocks es p)
  where
    step : (t : Bool) → at (filled blocks es) p ≡ option_map (λ b. get_or blocks b []) (at es p)
        → cond t (Some (get_or blocks e.1 [])) (at (filled blocks es) p) ≡ option_map (λ b. get_or blocks b []) (cond t (Some e.1) (at es p))
    step true more = refl
    step false more = more

pub filled-inserted : (blocks : List (List ℕ)) (es : Entries ℕ) (p b : ℕ) → filled blocks (inserted es p b) ≡ inserted (filled blocks es) p (get_or blocks b [])
filled-inserted blocks [] p b = refl
filled-inserted blocks (e ∷ es) p b = step (nat_lt p e.0) (filled-inserted blocks es p b)
  where
    step : (t : Bool) → filled blocks (inserted es p b) ≡ inserted (filled blocks es) p (get_or blocks b [])
        → filled blocks (cond t ((p, b) ∷ e ∷ es) (e ∷ inserted es p b))
        ≡ cond t ((p, get_or blocks b []) ∷ filled blocks (e ∷ es)) ((e.0, get_or blocks e.1 []) ∷ inserted (filled blocks es) p (get_or blocks b []))
    step true more = refl
    step false more = ap (λ fs. (e.0, get_or blocks e.1 []) ∷ fs) more

pub filled-below : (blocks : List (List ℕ)) (es : Entries ℕ) (p : ℕ) → filled blocks (below es p) ≡ below (filled blocks es) p
filled-below blocks [] p = refl
filled-below blocks (e ∷ es) p = step (nat_lt e.0 p) (filled-below blocks es p)
  where
    step : (t : Bool) → filled blocks (below es p) ≡ below (filled blocks es) p
        → filled blocks (cond t (e ∷ below es p) (below es p)) ≡ cond t ((e.0, get_or blocks e.1 []) ∷ below (filled blocks es) p) (below (filled blocks es) p)
    step true more = ap (λ fs. (e.0, get_or blocks e.1 []) ∷ fs) more
    step false more = more

-- blocks that the entries don't have may be others
pub filled_same : (blocks other : List (List ℕ)) (es : Entries ℕ) → ((b : ℕ) → Has b (blocks_of es) → get_or other b [] ≡ get_or blocks b []) → filled other es ≡ filled blocks es
filled_same blocks other [] same = refl
filled_same blocks other (e ∷ es) same = ap (λ v. (e.0, v) ∷ filled other es) (same e.1 (inl refl)) ∙ ap (λ fs. (e.0, get_or blocks e.1 []) ∷ fs) (filled_same blocks other es (λ b h. same b (inr h)))

pub has_at : (es : Entries ℕ) (p b : ℕ) → at es p ≡ Some b → Has b (blocks_of es)
has_at [] p b e = absurd (let f : None ≡ Some b = e in cc)
has_at (e ∷ es) p b f = step (nat_eq p e.0) f (has_at es p b)
  where
    same : Some e.1 ≡ Some b → b ≡ e.1
    same f = cc

    step : (t : Bool) → cond t (Some e.1) (at es p) ≡ Some b → (at es p ≡ Some b → Has b (blocks_of es)) → Has b (blocks_of (e ∷ es))
    step true f more = inl (same f)
    step false f more = inr (more f)

-- the one block is other bytes
pub filled-set : (blocks : List (List ℕ)) (es : Entries ℕ) (p b : ℕ) (v : List ℕ) → b < length blocks → Once (blocks_of es) → at es p ≡ Some b
    → filled (set blocks b v) es ≡ set_value (nat_eq p) (filled blocks es) v
filled-set blocks [] p b v lt once f = refl
filled-set blocks (e ∷ es) p b v lt once f = step (nat_eq p e.0) f (filled-set blocks es p b v lt once.1)
  where
    same : Some e.1 ≡ Some b → e.1 ≡ b
    same f = cc

    rest : e.1 ≡ b → filled (set blocks b v) es ≡ filled blocks es
    rest f = filled_same blocks (set blocks b v) es (λ c h. get_or-set_other blocks b c v [] (λ q. once.0 (subst (λ n. Has n (blocks_of es)) (q ∙ sym f) h)))

    other : at es p ≡ Some b → get_or (set blocks b v) e.1 [] ≡ get_or blocks e.1 []
    other f = get_or-set_other blocks b e.1 v [] (λ q. once.0 (subst (λ n. Has n (blocks_of es)) (sym q) (has_at es p b f)))

    step : (t : Bool) → cond t (Some e.1) (at es p) ≡ Some b → (at es p ≡ Some b → filled (set blocks b v) es ≡ set_value (nat_eq p) (filled blocks es) v)
        → filled (set blocks b v) (e ∷ es) ≡ cond t ((e.0, v) ∷ filled blocks es) ((e.0, get_or blocks e.1 []) ∷ set_value (nat_eq p) (filled blocks es) v)
    step true f more = ap (λ w. (e.0, w) ∷ filled (set blocks b v) es) (ap (λ n. get_or (set blocks b v) n []) (same f) ∙ get_or-set_same blocks b v [] lt) ∙ ap (λ fs. (e.0, v) ∷ fs) (rest (same f))
    step false f more = ap (λ w. (e.0, w) ∷ filled (set blocks b v) es) (other f) ∙ ap (λ fs. (e.0, get_or blocks e.1 []) ∷ fs) (more f)

pub length-filled : (blocks : List (List ℕ)) (es : Entries ℕ) → length (filled blocks es) ≡ length es
length-filled blocks es = length-map es (λ e. (e.0, get_or blocks e.1 []))

-- ---- the map with bytes
find-filled : (blocks : List (List ℕ)) (q : ℕ) (es : List (ℕ × Entries ℕ)) → fin.find nat_cmp q (map (λ e. (e.0, filled blocks e.1)) es) ≡ option_map (filled blocks) (fin.find nat_cmp q es)
find-filled blocks q [] = refl
find-filled blocks q (e ∷ es) = step (eq_by_cmp nat_cmp q e.0) (find-filled blocks q es)
  where
    step : (t : Bool) → fin.find nat_cmp q (map (λ e. (e.0, filled blocks e.1)) es) ≡ option_map (filled blocks) (fin.find nat_cmp q es)
        → cond t (Some (filled blocks e.1)) (fin.find nat_cmp q (map (λ e. (e.0, filled blocks e.1)) es)) ≡ option_map (filled blocks) (cond t (Some e.1) (fin.find nat_cmp q es))
    step true more = refl
    step false more = more

pub get-with_bytes : (blocks : List (List ℕ)) (m : ChainMap ℕ) (q : ℕ) → fin.get (with_bytes blocks m) q ≡ option_map (filled blocks) (fin.get m q)
get-with_bytes blocks m q = fin.get-from_entries nat_cmp_total (map (λ e. (e.0, filled blocks e.1)) (fin.entries m)) q
    ∙ find-filled blocks q (fin.entries m) ∙ ap (option_map (filled blocks)) (sym (fin.get-entries m q))

pub entries-with_bytes : (blocks : List (List ℕ)) (m : ChainMap ℕ) (head : Option ℕ) → entries_of (with_bytes blocks m) head ≡ filled blocks (entries_of m head)
entries-with_bytes blocks m None = refl
entries-with_bytes blocks m (Some q) = ap (λ o. unwrap_or o []) (get-with_bytes blocks m q) ∙ given (fin.get m q)
  where
    given : (o : Option (Entries ℕ)) → unwrap_or (option_map (filled blocks) o) [] ≡ filled blocks (unwrap_or o [])
    given None = refl
    given (Some es) = refl

with_bytes-insert : (blocks : List (List ℕ)) (m : ChainMap ℕ) (k : ℕ) (es : Entries ℕ) → with_bytes blocks (fin.insert m k es) ≡ fin.insert (with_bytes blocks m) k (filled blocks es)
with_bytes-insert blocks m k es = same_numbers _ _ (λ q. get-with_bytes blocks (fin.insert m k es) q ∙ from_either
    (λ e. ap (λ q. option_map (filled blocks) (fin.get (fin.insert m k es) q)) e ∙ ap (option_map (filled blocks)) (put_same m k es)
    ∙ sym (ap (fin.get (fin.insert (with_bytes blocks m) k (filled blocks es))) e ∙ put_same (with_bytes blocks m) k (filled blocks es)))
    (λ n. ap (option_map (filled blocks)) (put_other m k es q n) ∙ sym (get-with_bytes blocks m q) ∙ sym (put_other (with_bytes blocks m) k (filled blocks es) q n))
    (cases_eq q k))

with_bytes-remove : (blocks : List (List ℕ)) (m : ChainMap ℕ) (k : ℕ) → with_bytes blocks (fin.remove m k) ≡ fin.remove (with_bytes blocks m) k
with_bytes-remove blocks m k = same_numbers _ _ (λ q. get-with_bytes blocks (fin.remove m k) q ∙ from_either
    (λ e. ap (λ q. option_map (filled blocks) (fin.get (fin.remove m k) q)) e ∙ ap (option_map (filled blocks)) (taken_same m k)
    ∙ sym (ap (fin.get (fin.remove (with_bytes blocks m) k)) e ∙ taken_same (with_bytes blocks m) k))
    (λ n. ap (option_map (filled blocks)) (taken_other m k q n) ∙ sym (get-with_bytes blocks m q) ∙ sym (taken_other (with_bytes blocks m) k q n))
    (cases_eq q k))

pub with_bytes-without : (blocks : List (List ℕ)) (m : ChainMap ℕ) (head : Option ℕ) → with_bytes blocks (without m head) ≡ without (with_bytes blocks m) head
with_bytes-without blocks m None = refl
with_bytes-without blocks m (Some k) = with_bytes-remove blocks m k

pub with_bytes-replaced : (blocks : List (List ℕ)) (m : ChainMap ℕ) (old new : Option ℕ) (es : Entries ℕ)
    → with_bytes blocks (replaced m old new es) ≡ replaced (with_bytes blocks m) old new (filled blocks es)
with_bytes-replaced blocks m old None es = with_bytes-without blocks m old
with_bytes-replaced blocks m old (Some k) es = with_bytes-insert blocks (without m old) k es ∙ ap (λ n. fin.insert n k (filled blocks es)) (with_bytes-without blocks m old)

given_same : (blocks other : List (List ℕ)) (o : Option (Entries ℕ)) → ((es : Entries ℕ) → o ≡ Some es → filled other es ≡ filled blocks es)
    → option_map (filled other) o ≡ option_map (filled blocks) o
given_same blocks other None same = refl
given_same blocks other (Some es) same = ap Some (same es refl)

-- blocks that no chain has may be others
pub with_bytes_same : (blocks other : List (List ℕ)) (m : ChainMap ℕ) → ((q b : ℕ) (es : Entries ℕ) → fin.get m q ≡ Some es → Has b (blocks_of es) → get_or other b [] ≡ get_or blocks b [])
    → with_bytes other m ≡ with_bytes blocks m
with_bytes_same blocks other m same = same_numbers _ _ (λ q. get-with_bytes other m q
    ∙ given_same blocks other (fin.get m q) (λ es e. filled_same blocks other es (λ b h. same q b es e h))
    ∙ sym (get-with_bytes blocks m q))

-- ---- sizes
pub sized_at : (size b : ℕ) (bs : List (List ℕ)) → AllOf size bs → b < length bs → length (get_or bs b []) ≡ size
sized_at size b [] s lt = absurd (omega arith)
sized_at size zero (x ∷ bs) s lt = s.0
sized_at size (suc b) (x ∷ bs) s lt = sized_at size b bs s.1 (omega arith)

pub sized-set : (size b : ℕ) (bs : List (List ℕ)) (v : List ℕ) → AllOf size bs → length v ≡ size → AllOf size (set bs b v)
sized-set size b [] v s e = tt
sized-set size zero (x ∷ bs) v s e = (e, s.1)
sized-set size (suc b) (x ∷ bs) v s e = (s.0, sized-set size b bs v s.1 e)

pub sized-push : (size : ℕ) (bs : List (List ℕ)) (v : List ℕ) → AllOf size bs → length v ≡ size → AllOf size (bs ++ v ∷ [])
sized-push size [] v s e = (e, tt)
sized-push size (x ∷ bs) v s e = (s.0, sized-push size bs v s.1 e)

pub length-overwritten : (xs : List ℕ) (first : ℕ) (ys : List ℕ) → first + length ys ≤ length xs → length (overwritten xs first ys) ≡ length xs
length-overwritten xs first ys le =
    length-append (take first xs) (ys ++ drop (first + length ys) xs)
    ∙ (let a = length-take-le first xs (omega arith) in let b = length-append ys (drop (first + length ys) xs) in let c = length-drop (first + length ys) xs in omega arith)

-- a block is made ready
module _ (size block : ℕ) (bs : List (List ℕ)) (sized : AllOf size bs) where
  pub ready_sized : AllOf size (readied size bs block)
  ready_sized = at (nat_eq block (length bs))
    where
      at : (t : Bool) → AllOf size (cond t (bs ++ zeros size ∷ []) (set bs block (zeros size)))
      at true = sized-push size bs (zeros size) sized (length-zeros size)
      at false = sized-set size block bs (zeros size) sized (length-zeros size)

  pub ready_length : length (readied size bs block) ≡ cond (nat_eq block (length bs)) (length bs + 1) (length bs)
  ready_length = at (nat_eq block (length bs))
    where
      at : (t : Bool) → length (cond t (bs ++ zeros size ∷ []) (set bs block (zeros size))) ≡ cond t (length bs + 1) (length bs)
      at true = length-append bs (zeros size ∷ [])
      at false = length-set bs block (zeros size)

  pub ready_other : (b : ℕ) → b < length bs → b ≢ block → get_or (readied size bs block) b [] ≡ get_or bs b []
  ready_other b lt n = at (nat_eq block (length bs))
    where
      at : (t : Bool) → get_or (cond t (bs ++ zeros size ∷ []) (set bs block (zeros size))) b [] ≡ get_or bs b []
      at true = get_or_append_left bs (zeros size ∷ []) [] b lt
      at false = get_or-set_other bs block b (zeros size) [] n

  pub ready_here : block ≤ length bs → get_or (readied size bs block) block [] ≡ zeros size
  ready_here le = at (cases_eq block (length bs))
    where
      at : (block ≡ length bs) ⊎ (block ≡ length bs → ⊥) → get_or (readied size bs block) block [] ≡ zeros size
      at (inl e) = ap (λ t. get_or (cond t (bs ++ zeros size ∷ []) (set bs block (zeros size))) block []) (eq-eqb block (length bs) e) ∙ get_or_at bs (zeros size) [] [] block (sym e)
      at (inr n) = ap (λ t. get_or (cond t (bs ++ zeros size ∷ []) (set bs block (zeros size))) block []) (ne_eqb block (length bs) n) ∙ get_or-set_same bs block (zeros size) [] (omega arith)
