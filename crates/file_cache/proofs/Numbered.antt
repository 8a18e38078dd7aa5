-- Blocks that stand one behind the other: what one more makes of them, and which bytes are where.
use Rattle.std.proofs.Common.{◌≡◌, ℕ, zero, suc, ◌+◌, ◌*◌, ◌<◌, ◌≤◌, cond, List, [], ◌∷◌, ◌++◌, Some, None, IsSome, is_some, refl, sym, ap, ◌∙◌, length, take, drop, nat_eq, append_assoc, append-nil, length-append, arith}
use Rattle.std.proofs.lemmas.Bool.{eq-eqb, ne_eqb}
use Rattle.std.proofs.lemmas.List.{drop-append-le, take-append-le, length-drop}
use Rattle.std.proofs.Math.Seq.{drop-append-add}
use Rattle.std.specs.Map.{set_value}
use Rattle.std.specs.Option.{unwrap_or}
use Rattle.block_pool.specs.Chains.{Entries, at, inserted}
use Rattle.block_pool.specs.Pool.{AllSized}
use Rattle.block_pool.proofs.Lists.{AllBelow, inserted_between}
use Rattle.block_pool.proofs.Searching.{none_below, at_here, at_later}
use Rattle.file_cache.specs.Stored.{joined, IsNumbered}

module _ {V : Type 0} where
  pub numbered_below : (from p : ℕ) (es : Entries V) → IsNumbered from es → from + length es ≤ p → AllBelow p es
  numbered_below from p [] n le = tt
  numbered_below from p (e ∷ es) n le = ((let h = n.0 in omega arith), numbered_below (from + 1) p es n.1 (omega arith))

  pub IsNumbered-more : (from p : ℕ) (es : Entries V) (v : V) → IsNumbered from es → from + length es ≡ p → IsNumbered from (es ++ (p, v) ∷ [])
  IsNumbered-more from p [] v n e = ((let same : p ≡ from = omega arith in same), tt)
  IsNumbered-more from p (x ∷ es) v n e = (n.0, IsNumbered-more (from + 1) p es v n.1 (omega arith))

  -- the next position is free, and what goes there goes to the end
  pub absent_behind : (p : ℕ) (es : Entries V) → IsNumbered 0 es → length es ≡ p → at es p ≡ None
  absent_behind p es n e = none_below p es (numbered_below 0 p es n (omega arith))

  pub inserted_behind : (p : ℕ) (es : Entries V) (v : V) → IsNumbered 0 es → length es ≡ p → inserted es p v ≡ es ++ (p, v) ∷ []
  inserted_behind p es v n e =
      ap (λ xs. inserted xs p v) (sym (append-nil es)) ∙ inserted_between es [] p v (numbered_below 0 p es n (omega arith)) tt

  -- it is found there, and may get another value
  pub at_behind : (p : ℕ) (es : Entries V) (v : V) → AllBelow p es → at (es ++ (p, v) ∷ []) p ≡ Some v
  at_behind p [] v b = at_here p (p, v) [] refl
  at_behind p (e ∷ es) v b = at_later p e (es ++ (p, v) ∷ []) (λ q. let h = b.0 in absurd (omega arith)) ∙ at_behind p es v b.1

  pub set_behind : (p : ℕ) (es : Entries V) (v w : V) → AllBelow p es → set_value (nat_eq p) (es ++ (p, v) ∷ []) w ≡ es ++ (p, w) ∷ []
  set_behind p [] v w b = ap (λ t. cond t ((p, w) ∷ []) ((p, v) ∷ [])) (eq-eqb p p refl)
  set_behind p (e ∷ es) v w b =
      ap (λ t. cond t ((e.0, w) ∷ (es ++ (p, v) ∷ [])) (e ∷ set_value (nat_eq p) (es ++ (p, v) ∷ []) w)) (ne_eqb p e.0 (λ q. let h = b.0 in omega arith))
      ∙ ap (λ xs. e ∷ xs) (set_behind p es v w b.1)

  -- a position below their number has a block
  pub at_numbered : (from k p : ℕ) (es : Entries V) → IsNumbered from es → k < length es → from + k ≡ p → IsSome (at es p)
  at_numbered from k p [] n lt q = absurd (omega arith)
  at_numbered from zero p (e ∷ es) n lt q = ap is_some (at_here p e es (let h = n.0 in omega arith))
  at_numbered from (suc k) p (e ∷ es) n lt q =
      ap is_some (at_later p e es (λ same. let h = n.0 in omega arith)) ∙ at_numbered (from + 1) k p es n.1 (omega arith) (omega arith)

-- ---- their bytes
pub AllSized-more : (p : ℕ) (es : Entries (List ℕ)) (block : List ℕ) → AllSized es → length block ≡ 65536 → AllSized (es ++ (p, block) ∷ [])
AllSized-more p [] block s l = (l, tt)
AllSized-more p (e ∷ es) block s l = (s.0, AllSized-more p es block s.1 l)

pub length-joined : (es : Entries (List ℕ)) → AllSized es → length (joined es) ≡ length es * 65536
length-joined [] s = refl
length-joined (e ∷ es) s = length-append e.1 (joined es) ∙ (let first = s.0 in let more = length-joined es s.1 in omega arith)

pub joined-more : (p : ℕ) (es : Entries (List ℕ)) (block : List ℕ) → joined (es ++ (p, block) ∷ []) ≡ joined es ++ block
joined-more p [] block = append-nil block
joined-more p (e ∷ es) block = ap (λ xs. e.1 ++ xs) (joined-more p es block) ∙ sym (append_assoc e.1 (joined es) block)

-- bytes of the block at a position are bytes of all blocks together
pub block_part : (from k p r n : ℕ) (es : Entries (List ℕ)) → IsNumbered from es → AllSized es → k < length es → from + k ≡ p → r + n ≤ 65536
    → take n (drop r (unwrap_or (at es p) [])) ≡ take n (drop (k * 65536 + r) (joined es))
block_part from k p r n [] num s lt q le = absurd (omega arith)
block_part from zero p r n (e ∷ es) num s lt q le =
    let size : length e.1 ≡ 65536 = s.0 in
    ap (λ o. take n (drop r (unwrap_or o []))) (at_here p e es (let h = num.0 in omega arith))
    ∙ sym (take-append-le n (drop r e.1) (joined es) (let l = length-drop r e.1 in omega arith))
    ∙ ap (take n) (sym (drop-append-le r e.1 (joined es) (omega arith)))
    ∙ ap (λ m. take n (drop m (e.1 ++ joined es))) (let z : r ≡ 0 * 65536 + r = omega arith in z)
block_part from (suc k) p r n (e ∷ es) num s lt q le =
    let size : length e.1 ≡ 65536 = s.0 in
    ap (λ o. take n (drop r (unwrap_or o []))) (at_later p e es (λ same. let h = num.0 in omega arith))
    ∙ block_part (from + 1) k p r n es num.1 s.1 (omega arith) (omega arith) le
    ∙ ap (take n) (sym (drop-append-add e.1 (joined es) (k * 65536 + r)))
    ∙ ap (λ m. take n (drop m (e.1 ++ joined es))) (let z : length e.1 + (k * 65536 + r) ≡ suc k * 65536 + r = omega arith in z)
