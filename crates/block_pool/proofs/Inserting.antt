-- A block goes before the first one of a chain, or behind one of its blocks.
use Rattle.std.proofs.Common.{◌≡◌, ◌≢◌, ℕ, zero, suc, ◌+◌, ◌<◌, List, [], ◌∷◌, ◌++◌, ◌⊎◌, inl, refl, sym, ap, subst, ◌∙◌, length, set, cond, nat_eq, arith, append_assoc}
use Rattle.std.proofs.lemmas.Bool.{eq-eqb, ne_eqb}
use Rattle.std.proofs.lemmas.List.{length-set, same_from_push}
use Rattle.block_pool.specs.Chains.{AllAbove, Rises, inserted}
use Rattle.block_pool.specs.Nodes.{node_at, walk, step, blocks_at, placed, chain_at, Has, Once, IsLinked, IsLoose, put_before, pointed, joined, put_behind}
use Rattle.block_pool.specs.declared.node.Node.{Node}
use Rattle.block_pool.proofs.Lists.{Has-left, Has-right, Has-inside, Once-apart, Once-left, AllBelow, AllBelow-upto, AllAbove-lower, Rises-left, Rises-right, inserted_between, Rises-between}
use Rattle.block_pool.proofs.Walks.{walk_parts, walk_end, Has-step, Has-head, walk_kept, walk_missed, walk_ended, node_at-same, node_at-other, part_kept, placed_same, placed-append, Once-rising}
use Rattle.block_pool.proofs.Walks.{step_next}
use Rattle.block_pool.proofs.Relinking.{Relinks}

-- ---- before the first block
pub Relinks-before : (nodes : List Node) (first freed head block position k : ℕ) → IsLinked nodes first freed → IsLoose nodes first freed block
    → (node_at nodes head).count ≡ suc k → position < (node_at nodes head).position → Relinks nodes (put_before nodes head block position) first freed head block block position
Relinks-before nodes first freed head block position k l loose there lt =
    let f : Node = node_at nodes head in
    let v : Node = record { position = position; next = head; last = f.last; count = f.count + 1 } in
    let n1 : List Node = set nodes block v in
    let w : Node = record f { count = 0 } in
    let other : List Node = set n1 head w in
    let apart : head ≢ block = (λ p. loose.in_no_chain head (subst (λ b. Has b (blocks_at nodes head)) p (Has-head nodes head k there))) in
    let head_stays : node_at n1 head ≡ f = node_at-other nodes block v head apart in
    let within : head < length n1 = subst (λ n. head < n) (sym (length-set nodes block v)) (l.within head head (Has-head nodes head k there)) in
    let next_kept : w.next ≡ (node_at n1 head).next = sym (ap (λ n. n.next) head_stays) in
    let new_here : node_at other block ≡ v = node_at-other n1 head w block (λ p. apart (sym p)) ∙ node_at-same nodes block v loose.within in
    let old_here : node_at other head ≡ w = node_at-same n1 head w within in
    let same_walk = λ (j b : ℕ) (miss : ¬ (Has block (walk nodes j b))). walk_kept n1 head w next_kept j b ∙ walk_missed nodes block v j b miss in
    let blocks : blocks_at other block ≡ block ∷ blocks_at nodes head =
    ap (λ n. walk other n.count block) new_here ∙ ap (λ n. walk other n block) (plus_one f.count)
    ∙ ap (λ b. block ∷ walk other f.count b) (ap (λ n. n.next) new_here)
    ∙ ap (λ bs. block ∷ bs) (same_walk f.count head (loose.in_no_chain head)) in
    let chain : chain_at other block ≡ (position, block) ∷ chain_at nodes head =
    ap (placed other) blocks ∙ ap (λ n. (n.position, block) ∷ placed other (blocks_at nodes head)) new_here
    ∙ ap (λ es. (position, block) ∷ es)
    (placed_same nodes other (blocks_at nodes head) (λ b h. positions n1 w b head_stays (λ p. loose.in_no_chain head (subst (λ c. Has c (blocks_at nodes head)) p h)))) in
    let above : AllAbove position (chain_at nodes head) = all_above f.count there (l.rising head) in
    record {
      len = length-set n1 head w ∙ length-set nodes block v;
      freed_same = same_walk freed first loose.not_freed;
      others = λ q n m. ap (λ n. walk other n.count q) (node_at-other n1 head w q m ∙ node_at-other nodes block v q n) ∙ same_walk (node_at nodes q).count q (loose.in_no_chain q);
      left = λ n. ap (λ n. walk other n.count head) old_here;
      from = λ b h. subst (λ bs. Has b bs → (b ≡ block) ⊎ Has b (blocks_at nodes head)) (sym blocks) (λ h. h) h;
      positions = λ b n. positions n1 w b head_stays n;
      entries = chain ∙ sym (inserted_between [] (chain_at nodes head) position block tt above);
      rising = subst Rises (sym chain) (above, l.rising head);
      last_new = λ b bs e. ap (λ n. n.last) new_here ∙ last_is b bs (sym blocks ∙ e);
      last_others = λ q n. part_kept (λ n. n.last) n1 head w (sym (ap (λ n. n.last) head_stays)) q ∙ ap (λ n. n.last) (node_at-other nodes block v q n);
    }
  where
    plus_one : (n : ℕ) → n + 1 ≡ suc n
    plus_one n = omega arith

    positions : (n1 : List Node) (w : Node) (b : ℕ)
        → node_at (set nodes block (record { position = position; next = head; last = (node_at nodes head).last; count = (node_at nodes head).count + 1 })) head ≡ node_at nodes head
        → b ≢ block → (node_at (put_before nodes head block position) b).position ≡ (node_at nodes b).position
    positions n1 w b stays n =
        part_kept (λ n. n.position) (set nodes block (record { position = position; next = head; last = (node_at nodes head).last; count = (node_at nodes head).count + 1 })) head
        (record (node_at nodes head) { count = 0 }) (sym (ap (λ n. n.position) stays)) b
        ∙ ap (λ n. n.position) (node_at-other nodes block (record { position = position; next = head; last = (node_at nodes head).last; count = (node_at nodes head).count + 1 }) b n)

    all_above : (n : ℕ) → n ≡ suc k → Rises (placed nodes (walk nodes n head)) → AllAbove position (placed nodes (walk nodes n head))
    all_above n e r = let c : Rises (placed nodes (walk nodes (suc k) head)) = subst (λ n. Rises (placed nodes (walk nodes n head))) e r in
        subst (λ n. AllAbove position (placed nodes (walk nodes n head))) (sym e)
        (lt, AllAbove-lower (node_at nodes head).position position (placed nodes (walk nodes k (node_at nodes head).next)) (omega arith) c.0)

    last_is : (b : ℕ) (bs : List ℕ) → block ∷ blocks_at nodes head ≡ bs ++ b ∷ [] → (node_at nodes head).last ≡ b
    last_is b bs e =
        let ends : blocks_at nodes head ≡ walk nodes k head ++ step nodes k head ∷ [] = ap (λ n. walk nodes n head) there ∙ walk_end nodes k head in
        l.last head (step nodes k head) (walk nodes k head) ends
        ∙ (same_from_push (block ∷ walk nodes k head) bs (step nodes k head) b (ap (λ xs. block ∷ xs) (sym ends) ∙ e)).1

-- ---- behind a block
-- the block goes behind the one so many steps from the first, before which there are so many more
module _ (nodes : List Node) (first freed head block position k m : ℕ) (l : IsLinked nodes first freed) (loose : IsLoose nodes first freed block)
    (there : (node_at nodes head).count ≡ suc k + m) (lower : (node_at nodes (step nodes k head)).position < position)
    (higher : 0 < m → position < (node_at nodes (step nodes (suc k) head)).position) where
  abbrev place : ℕ
  place = step nodes k head

  abbrev behind : ℕ
  behind = step nodes (suc k) head

  abbrev n1 : List Node
  n1 = pointed nodes block position (node_at nodes place).next

  abbrev n2 : List Node
  n2 = joined n1 place block

  abbrev other : List Node
  other = put_behind nodes head place block position

  old_blocks : blocks_at nodes head ≡ walk nodes (suc k) head ++ walk nodes m behind
  old_blocks = walk_parts nodes (suc k) m (node_at nodes head).count head there

  ends : walk nodes (suc k) head ≡ walk nodes k head ++ place ∷ []
  ends = walk_end nodes k head

  place_in : Has place (blocks_at nodes head)
  place_in = Has-step nodes k (node_at nodes head).count head (omega arith)

  head_in : Has head (blocks_at nodes head)
  head_in = Has-step nodes zero (node_at nodes head).count head (omega arith)

  once : Once (walk nodes (suc k) head ++ walk nodes m behind)
  once = subst Once old_blocks (Once-rising nodes (blocks_at nodes head) (l.rising head))

  missed : (q b : ℕ) → Has b (blocks_at nodes q) → block ≢ b
  missed q b h p = loose.in_no_chain q (subst (λ c. Has c (blocks_at nodes q)) (sym p) h)

  not_before : ¬ (Has block (walk nodes (suc k) head))
  not_before h = loose.in_no_chain head (subst (λ bs. Has block bs) (sym old_blocks) (Has-left block (walk nodes (suc k) head) (walk nodes m behind) h))

  not_behind : ¬ (Has block (walk nodes m behind))
  not_behind h = loose.in_no_chain head (subst (λ bs. Has block bs) (sym old_blocks) (Has-right block (walk nodes (suc k) head) (walk nodes m behind) h))

  not_earlier : ¬ (Has block (walk nodes k head))
  not_earlier h = not_before (subst (λ bs. Has block bs) (sym ends) (Has-left block (walk nodes k head) (place ∷ []) h))

  within_1 : place < length n1
  within_1 = subst (λ n. place < n) (sym (length-set nodes block _)) (l.within head place place_in)

  within_2 : head < length n2
  within_2 = subst (λ n. head < n) (sym (length-set n1 place _ ∙ length-set nodes block _)) (l.within head head head_in)

  new_in_1 : node_at n1 block ≡ record (node_at nodes block) { position = position; next = (node_at nodes place).next }
  new_in_1 = node_at-same nodes block _ loose.within

  new_in_2 : node_at n2 block ≡ record (node_at nodes block) { position = position; next = (node_at nodes place).next }
  new_in_2 = node_at-other n1 place _ block (missed head place place_in) ∙ new_in_1

  place_in_2 : node_at n2 place ≡ record (node_at n1 place) { next = block }
  place_in_2 = node_at-same n1 place _ within_1

  -- a walk that meets neither the block nor its place
  walk_stays : (j b : ℕ) → ¬ (Has block (walk nodes j b)) → ¬ (Has place (walk nodes j b)) → walk n2 j b ≡ walk nodes j b
  walk_stays j b h p =
      let e = walk_missed nodes block (record (node_at nodes block) { position = position; next = (node_at nodes place).next }) j b h in
      walk_missed n1 place (record (node_at n1 place) { next = block }) j b (λ c. p (subst (λ bs. Has place bs) e c)) ∙ e

  walk_other : (j b : ℕ) → walk other j b ≡ walk n2 j b
  walk_other j b = walk_kept n2 head _ refl j b

  -- up to the place nothing changes
  not_twice : ¬ (Has place (walk nodes k head))
  not_twice h = Once-apart place (walk nodes k head) (place ∷ []) (subst Once ends (Once-left (walk nodes (suc k) head) (walk nodes m behind) once)) h (inl refl)

  front : (walk n2 (suc k) head ≡ walk nodes (suc k) head) × (step n2 k head ≡ place)
  front =
      let v : Node = record (node_at nodes block) { position = position; next = (node_at nodes place).next } in
      let one = walk_ended nodes block v k head not_earlier in
      let e = walk_missed nodes block v k head not_earlier in
      let two = walk_ended n1 place (record (node_at n1 place) { next = block }) k head (λ c. not_twice (subst (λ bs. Has place bs) e c)) in
      (two.0 ∙ one.0, two.1 ∙ one.1)

  -- the block stands behind it, and then what stood there
  comes_next : step n2 (suc k) head ≡ block
  comes_next = step_next n2 k head ∙ ap (λ b. (node_at n2 b).next) front.1 ∙ ap (λ n. n.next) place_in_2

  place_not_behind : ¬ (Has place (walk nodes m behind))
  place_not_behind h = Once-apart place (walk nodes (suc k) head) (walk nodes m behind) once (subst (λ bs. Has place bs) (sym ends) (Has-right place (walk nodes k head) (place ∷ []) (inl refl))) h

  rest : walk n2 (suc m) block ≡ block ∷ walk nodes m behind
  rest = ap (λ b. block ∷ walk n2 m b) (ap (λ n. n.next) new_in_2 ∙ sym (step_next nodes k head)) ∙ ap (λ bs. block ∷ bs) (walk_stays m behind not_behind place_not_behind)

  count_is : (node_at other head).count ≡ (node_at nodes head).count + 1
  count_is = ap (λ n. n.count) (node_at-same n2 head _ within_2)

  last_is : (node_at other head).last ≡ cond (nat_eq place (node_at nodes head).last) block (node_at nodes head).last
  last_is = ap (λ n. n.last) (node_at-same n2 head _ within_2)

  blocks : blocks_at other head ≡ walk nodes (suc k) head ++ block ∷ walk nodes m behind
  blocks = ap (λ n. walk other n head) count_is ∙ walk_other ((node_at nodes head).count + 1) head
      ∙ walk_parts n2 (suc k) (suc m) ((node_at nodes head).count + 1) head (omega (arith, there))
      ∙ ap (λ bs. bs ++ walk n2 (suc m) (step n2 (suc k) head)) front.0
      ∙ ap (λ b. walk nodes (suc k) head ++ walk n2 (suc m) b) comes_next
      ∙ ap (λ bs. walk nodes (suc k) head ++ bs) rest

  kept : {X : Type 0} (part : Node → X) → ((n : Node) (next : ℕ) → part (record n { next = next }) ≡ part n) → ((n : Node) (count last : ℕ) → part (record n { count = count; last = last }) ≡ part n)
      → (b : ℕ) → part (node_at other b) ≡ part (node_at n1 b)
  kept part by_next by_bound b =
      part_kept part n2 head (record (node_at n2 head) { count = (node_at nodes head).count + 1; last = cond (nat_eq place (node_at nodes head).last) block (node_at nodes head).last })
      (by_bound (node_at n2 head) _ _) b
      ∙ part_kept part n1 place (record (node_at n1 place) { next = block }) (by_next (node_at n1 place) block) b

  positions : (b : ℕ) → b ≢ block → (node_at other b).position ≡ (node_at nodes b).position
  positions b n = kept (λ n. n.position) (λ n x. refl) (λ n x y. refl) b ∙ ap (λ n. n.position) (node_at-other nodes block _ b n)

  chain : chain_at other head ≡ placed nodes (walk nodes (suc k) head) ++ (position, block) ∷ placed nodes (walk nodes m behind)
  chain = ap (placed other) blocks ∙ placed-append other (walk nodes (suc k) head) (block ∷ walk nodes m behind)
      ∙ ap (λ es. es ++ placed other (block ∷ walk nodes m behind))
      (placed_same nodes other (walk nodes (suc k) head) (λ b h. positions b (λ p. not_before (subst (λ c. Has c (walk nodes (suc k) head)) p h))))
      ∙ ap (λ p. placed nodes (walk nodes (suc k) head) ++ (p, block) ∷ placed other (walk nodes m behind)) (kept (λ n. n.position) (λ n x. refl) (λ n x y. refl) block ∙ ap (λ n. n.position) new_in_1)
      ∙ ap (λ es. placed nodes (walk nodes (suc k) head) ++ (position, block) ∷ es)
      (placed_same nodes other (walk nodes m behind) (λ b h. positions b (λ p. not_behind (subst (λ c. Has c (walk nodes m behind)) p h))))

  old_chain : chain_at nodes head ≡ placed nodes (walk nodes (suc k) head) ++ placed nodes (walk nodes m behind)
  old_chain = ap (placed nodes) old_blocks ∙ placed-append nodes (walk nodes (suc k) head) (walk nodes m behind)

  rises : Rises (placed nodes (walk nodes (suc k) head) ++ placed nodes (walk nodes m behind))
  rises = subst Rises old_chain (l.rising head)

  all_below : AllBelow position (placed nodes (walk nodes (suc k) head))
  all_below =
      let e = ap (placed nodes) ends ∙ placed-append nodes (walk nodes k head) (place ∷ []) in
      subst (AllBelow position) (sym e)
      (AllBelow-upto position (placed nodes (walk nodes k head)) ((node_at nodes place).position, place)
      (subst Rises e (Rises-left (placed nodes (walk nodes (suc k) head)) (placed nodes (walk nodes m behind)) rises)) lower)

  all_above : AllAbove position (placed nodes (walk nodes m behind))
  all_above = at m higher (Rises-right (placed nodes (walk nodes (suc k) head)) (placed nodes (walk nodes m behind)) rises)
    where
      at : (m : ℕ) → (0 < m → position < (node_at nodes behind).position) → Rises (placed nodes (walk nodes m behind)) → AllAbove position (placed nodes (walk nodes m behind))
      at zero h r = tt
      at (suc m) h r = let lt : position < (node_at nodes behind).position = h (omega arith) in
          (lt, AllAbove-lower (node_at nodes behind).position position (placed nodes (walk nodes m (node_at nodes behind).next)) (omega arith) r.0)

  -- the last block is the new one where it went behind the last
  ending : (b : ℕ) (bs : List ℕ) → walk nodes (suc k) head ++ block ∷ walk nodes m behind ≡ bs ++ b ∷ [] → cond (nat_eq place (node_at nodes head).last) block (node_at nodes head).last ≡ b
  ending b bs e = at m refl
    where
      at_end : m ≡ zero → (node_at nodes head).last ≡ place
      at_end z = l.last head place (walk nodes k head) (old_blocks ∙ ap (λ n. walk nodes (suc k) head ++ walk nodes n behind) z ∙ append_none (walk nodes (suc k) head) ∙ ends)
        where
          append_none : (xs : List ℕ) → xs ++ [] ≡ xs
          append_none [] = refl
          append_none (x ∷ xs) = ap (λ ys. x ∷ ys) (append_none xs)

      further : (j : ℕ) → m ≡ suc j → walk nodes m behind ≡ walk nodes j behind ++ step nodes j behind ∷ []
      further j s = ap (λ n. walk nodes n behind) s ∙ walk_end nodes j behind

      last_stays : (j : ℕ) → m ≡ suc j → (node_at nodes head).last ≡ step nodes j behind
      last_stays j s = l.last head (step nodes j behind) (walk nodes (suc k) head ++ walk nodes j behind)
          (old_blocks ∙ ap (λ bs. walk nodes (suc k) head ++ bs) (further j s) ∙ sym (append_assoc (walk nodes (suc k) head) (walk nodes j behind) (step nodes j behind ∷ [])))

      at : (n : ℕ) → m ≡ n → cond (nat_eq place (node_at nodes head).last) block (node_at nodes head).last ≡ b
      at zero z = ap (λ t. cond t block (node_at nodes head).last) (eq-eqb place (node_at nodes head).last (sym (at_end z)))
          ∙ (same_from_push (walk nodes (suc k) head) bs block b (ap (λ n. walk nodes (suc k) head ++ block ∷ walk nodes n behind) (sym z) ∙ e)).1
      at (suc j) s = ap (λ t. cond t block (node_at nodes head).last) (ne_eqb place (node_at nodes head).last
          (λ p. place_not_behind
          (subst (λ c. Has c (walk nodes m behind)) (sym (p ∙ last_stays j s))
          (subst (λ bs. Has (step nodes j behind) bs) (sym (further j s)) (Has-right (step nodes j behind) (walk nodes j behind) (step nodes j behind ∷ []) (inl refl))))))
          ∙ last_stays j s
          ∙ (same_from_push (walk nodes (suc k) head ++ block ∷ walk nodes j behind) bs (step nodes j behind) b
          (append_assoc (walk nodes (suc k) head) (block ∷ walk nodes j behind) (step nodes j behind ∷ []) ∙ ap (λ bs. walk nodes (suc k) head ++ block ∷ bs) (sym (further j s)) ∙ e)).1

  pub Relinks-behind : Relinks nodes other first freed head head block position
  Relinks-behind = record {
    len = length-set n2 head _ ∙ length-set n1 place _ ∙ length-set nodes block _;
    freed_same = walk_other freed first ∙ walk_stays freed first loose.not_freed (λ h. l.not_freed head place h place_in);
    others = λ q n m. ap (λ c. walk other c q) (count_stays q n)
        ∙ walk_other (node_at nodes q).count q ∙ walk_stays (node_at nodes q).count q (loose.in_no_chain q) (λ h. n (l.apart q head place h place_in));
    left = λ n. absurd (n refl);
    from = λ b h. subst (λ bs. (b ≡ block) ⊎ Has b bs) (sym old_blocks) (Has-inside b block (walk nodes (suc k) head) (walk nodes m behind) (subst (λ bs. Has b bs) blocks h));
    positions = positions;
    entries =
        chain ∙ sym
        (ap (λ es. inserted es position block) old_chain ∙ inserted_between (placed nodes (walk nodes (suc k) head)) (placed nodes (walk nodes m behind)) position block all_below all_above);
    rising = subst Rises (sym chain) (Rises-between (placed nodes (walk nodes (suc k) head)) (placed nodes (walk nodes m behind)) position block rises all_below all_above);
    last_new = λ b bs e. last_is ∙ ending b bs (sym blocks ∙ e);
    last_others =
        λ q n. ap (λ n. n.last) (node_at-other n2 head _ q n) ∙ part_kept (λ n. n.last) n1 place (record (node_at n1 place) { next = block }) refl q
        ∙ part_kept (λ n. n.last) nodes block (record (node_at nodes block) { position = position; next = (node_at nodes place).next }) refl q;
  }
    where
      count_stays : (q : ℕ) → q ≢ head → (node_at other q).count ≡ (node_at nodes q).count
      count_stays q n = ap (λ n. n.count) (node_at-other n2 head _ q n) ∙ part_kept (λ n. n.count) n1 place (record (node_at n1 place) { next = block }) refl q
          ∙ part_kept (λ n. n.count) nodes block (record (node_at nodes block) { position = position; next = (node_at nodes place).next }) refl q
