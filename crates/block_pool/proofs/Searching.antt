-- What a search along a chain finds at a position.
use Rattle.std.proofs.Common.{◌≡◌, ◌≢◌, ℕ, suc, ◌+◌, ◌-◌, ◌<◌, ◌≤◌, cond, List, [], ◌∷◌, ◌++◌, None, Some, refl, sym, ap, subst, ◌∙◌, length, arith}
use Rattle.std.proofs.lemmas.Bool.{eq-eqb, ne_eqb}
use Rattle.block_pool.specs.Chains.{Entries, AllAbove, Rises, at}
use Rattle.block_pool.specs.Nodes.{node_at, walk, step, placed, chain_at, IsWithin}
use Rattle.block_pool.specs.declared.node.Node.{Node}
use Rattle.block_pool.proofs.Lists.{AllBelow, AllBelow-upto, AllAbove-right}
use Rattle.block_pool.proofs.Walks.{walk_end, step_next, placed-append}

module _ {V : Type 0} where
  pub none_below : (p : ℕ) (es : Entries V) → AllBelow p es → at es p ≡ None
  none_below p [] b = refl
  none_below p (e ∷ es) b = ap (λ t. cond t (Some e.1) (at es p)) (ne_eqb p e.0 (λ q. let h = b.0 in omega arith)) ∙ none_below p es b.1

  pub none_above : (p : ℕ) (es : Entries V) → AllAbove p es → at es p ≡ None
  none_above p [] a = refl
  none_above p (e ∷ es) a = ap (λ t. cond t (Some e.1) (at es p)) (ne_eqb p e.0 (λ q. let h = a.0 in omega arith)) ∙ none_above p es a.1

  pub at_here : (p : ℕ) (e : ℕ × V) (es : Entries V) → e.0 ≡ p → at (e ∷ es) p ≡ Some e.1
  at_here p e es q = ap (λ t. cond t (Some e.1) (at es p)) (eq-eqb p e.0 (sym q))

  pub at_later : (p : ℕ) (e : ℕ × V) (es : Entries V) → e.0 ≢ p → at (e ∷ es) p ≡ at es p
  at_later p e es n = ap (λ t. cond t (Some e.1) (at es p)) (ne_eqb p e.0 (λ q. n (sym q)))

  pub at_end : (xs : Entries V) (e : ℕ × V) → Rises (xs ++ e ∷ []) → at (xs ++ e ∷ []) e.0 ≡ Some e.1
  at_end [] e r = at_here e.0 e [] refl
  at_end (x ∷ xs) e r = at_later e.0 x (xs ++ e ∷ []) (λ q. let h = (AllAbove-right x.0 xs (e ∷ []) r.0).0 in absurd (omega arith)) ∙ at_end xs e r.1

module _ (nodes : List Node) (head : ℕ) (w : IsWithin nodes head) where
  abbrev all : ℕ
  all = (node_at nodes head).count

  abbrev final : ℕ
  final = (node_at nodes head).last

  ends : chain_at nodes head ≡ placed nodes (walk nodes (all - 1) head) ++ ((node_at nodes final).position, final) ∷ []
  ends = ap (λ n. placed nodes (walk nodes n head)) (let s : all ≡ suc (all - 1) = omega (arith, w.some) in s)
      ∙ ap (placed nodes) (walk_end nodes (all - 1) head) ∙ placed-append nodes (walk nodes (all - 1) head) (step nodes (all - 1) head ∷ [])
      ∙ ap (λ b. placed nodes (walk nodes (all - 1) head) ++ ((node_at nodes b).position, b) ∷ []) (sym w.last)

  -- the last block has a node
  pub final_within : final < length nodes
  final_within = subst (λ b. b < length nodes) (sym w.last) (w.steps (all - 1) (omega (arith, w.some)))

  pub head_within : head < length nodes
  head_within = w.steps 0 (omega (arith, w.some))

  -- nothing is behind the last position
  pub none_behind : (p : ℕ) → (node_at nodes final).position < p → at (chain_at nodes head) p ≡ None
  none_behind p lt = ap (λ es. at es p) ends ∙ none_below p _ (AllBelow-upto p (placed nodes (walk nodes (all - 1) head)) ((node_at nodes final).position, final) (subst Rises ends w.rising) lt)

  -- at it there is the last block
  pub found_last : (p : ℕ) → (node_at nodes final).position ≡ p → at (chain_at nodes head) p ≡ Some final
  found_last p e = ap (λ es. at es p) ends ∙ subst (λ q. at (placed nodes (walk nodes (all - 1) head) ++ ((node_at nodes final).position, final) ∷ []) q ≡ Some final) e
      (at_end (placed nodes (walk nodes (all - 1) head)) ((node_at nodes final).position, final) (subst Rises ends w.rising))

  -- a step on from the block before
  pub place_within : (kept block : ℕ) → 1 ≤ kept → kept ≤ all → block ≡ step nodes (kept - 1) head → block < length nodes
  place_within kept block some few e = subst (λ b. b < length nodes) (sym e) (w.steps (kept - 1) (omega arith))

  pub next_is : (kept block : ℕ) → 1 ≤ kept → block ≡ step nodes (kept - 1) head → (node_at nodes block).next ≡ step nodes kept head
  next_is kept block some e = ap (λ b. (node_at nodes b).next) e ∙ sym (step_next nodes (kept - 1) head) ∙ ap (λ n. step nodes n head) (let s : suc (kept - 1) ≡ kept = omega arith in s)

  pub next_within : (kept block : ℕ) → 1 ≤ kept → kept < all → block ≡ step nodes (kept - 1) head → (node_at nodes block).next < length nodes
  next_within kept block some few e = subst (λ b. b < length nodes) (sym (next_is kept block some e)) (w.steps kept few)

  -- what is left of a search, one step on
  abbrev pub Left : ℕ → ℕ → ℕ → Type 0
  Left p steps block = (block ≡ step nodes steps head) × (at (placed nodes (walk nodes (all - steps) block)) p ≡ at (chain_at nodes head) p)

  rest_is : (steps block : ℕ) → steps < all
      → placed nodes (walk nodes (all - steps) block) ≡ ((node_at nodes block).position, block) ∷ placed nodes (walk nodes (all - (steps + 1)) (node_at nodes block).next)
  rest_is steps block lt = ap (λ n. placed nodes (walk nodes n block)) (let s : all - steps ≡ suc (all - (steps + 1)) = omega arith in s)

  pub found_now : (p steps block : ℕ) → steps < all → Left p steps block → (node_at nodes block).position ≡ p → at (chain_at nodes head) p ≡ Some block
  found_now p steps block lt left e = sym left.1 ∙ ap (λ es. at es p) (rest_is steps block lt) ∙ at_here p ((node_at nodes block).position, block) _ e

  pub left_more : (p steps block : ℕ) → steps < all → Left p steps block → (node_at nodes block).position ≢ p → Left p (steps + 1) (node_at nodes block).next
  left_more p steps block lt left n = (
    ap (λ b. (node_at nodes b).next) left.0 ∙ sym (step_next nodes steps head) ∙ ap (λ n. step nodes n head) (let s : suc steps ≡ steps + 1 = omega arith in s),
    sym (at_later p ((node_at nodes block).position, block) _ n) ∙ ap (λ es. at es p) (sym (rest_is steps block lt)) ∙ left.1,
  )

  pub left_none : (p steps block : ℕ) → all ≤ steps → Left p steps block → at (chain_at nodes head) p ≡ None
  left_none p steps block le left = sym left.1 ∙ ap (λ n. at (placed nodes (walk nodes n block)) p) (let s : all - steps ≡ 0 = omega arith in s)
