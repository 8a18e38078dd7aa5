-- The blocks of a chain from one place on are cut off and go before the freed ones.
use Rattle.std.proofs.Common.{◌≡◌, ◌≢◌, ℕ, zero, suc, ◌+◌, ◌<◌, ◌≤◌, List, [], ◌∷◌, ◌++◌, ◌⊎◌, inl, refl, sym, ap, subst, ◌∙◌, length, arith, append_assoc}
use Rattle.std.proofs.lemmas.Bool.{cases_eq}
use Rattle.std.proofs.lemmas.List.{length-set, same_from_push}
use Rattle.block_pool.specs.Chains.{Rises, below}
use Rattle.block_pool.specs.Nodes.{node_at, walk, step, blocks_at, placed, chain_at, Has, Once, IsLinked, joined, cut_behind}
use Rattle.block_pool.specs.declared.node.Node.{Node}
use Rattle.block_pool.proofs.Lists.{from_either, Has-left, Has-right, Has-append, Once-append, Once-apart, Once-right, AllBelow, AllBelow-upto, AllFrom, AllFrom-above, Rises-left, Rises-right}
use Rattle.block_pool.proofs.Lists.{below_between}
use Rattle.block_pool.proofs.Walks.{walk_parts, walk_end, Has-step, walk_kept, walk_missed, walk_ended, node_at-same, node_at-other, part_kept, placed_same, placed-append, Once-rising, step_next}

-- the chain keeps so many blocks, of which the last is at the place, and loses one and so many more
module _ (nodes : List Node) (first freed head place kept m : ℕ) (l : IsLinked nodes first freed) (there : (node_at nodes head).count ≡ kept + suc m)
    (upto : (k : ℕ) → kept ≡ suc k → place ≡ step nodes k head) where
  abbrev tail : ℕ
  tail = step nodes kept head

  abbrev final : ℕ
  final = (node_at nodes head).last

  abbrev n1 : List Node
  n1 = joined nodes final first

  abbrev other : List Node
  other = cut_behind nodes head place kept first

  old_blocks : blocks_at nodes head ≡ walk nodes kept head ++ walk nodes (suc m) tail
  old_blocks = walk_parts nodes kept (suc m) (node_at nodes head).count head there

  final_is : final ≡ step nodes m tail
  final_is = l.last head (step nodes m tail) (walk nodes kept head ++ walk nodes m tail)
      (old_blocks ∙ ap (λ bs. walk nodes kept head ++ bs) (walk_end nodes m tail) ∙ sym (append_assoc (walk nodes kept head) (walk nodes m tail) (step nodes m tail ∷ [])))

  final_in : Has final (walk nodes (suc m) tail)
  final_in = subst (λ b. Has b (walk nodes (suc m) tail)) (sym final_is) (Has-step nodes m (suc m) tail (omega arith))

  final_in_chain : Has final (blocks_at nodes head)
  final_in_chain = subst (λ bs. Has final bs) (sym old_blocks) (Has-right final (walk nodes kept head) (walk nodes (suc m) tail) final_in)

  head_in : Has head (blocks_at nodes head)
  head_in = Has-step nodes zero (node_at nodes head).count head (omega arith)

  once : Once (walk nodes kept head ++ walk nodes (suc m) tail)
  once = subst Once old_blocks (Once-rising nodes (blocks_at nodes head) (l.rising head))

  within_1 : head < length n1
  within_1 = subst (λ n. head < n) (sym (length-set nodes final _)) (l.within head head head_in)

  walk_other : (j b : ℕ) → walk other j b ≡ walk n1 j b
  walk_other j b = walk_kept n1 head _ refl j b

  walk_stays : (j b : ℕ) → ¬ (Has final (walk nodes j b)) → walk other j b ≡ walk nodes j b
  walk_stays j b h = walk_other j b ∙ walk_missed nodes final (record (node_at nodes final) { next = first }) j b h

  pub cut_blocks : blocks_at other head ≡ walk nodes kept head
  cut_blocks = ap (λ n. walk other n.count head) (node_at-same n1 head _ within_1)
      ∙ walk_stays kept head (λ h. Once-apart final (walk nodes kept head) (walk nodes (suc m) tail) once h final_in)

  cut_others : (q : ℕ) → q ≢ head → blocks_at other q ≡ blocks_at nodes q
  cut_others q n = ap (λ c. walk other c q) (ap (λ n. n.count) (node_at-other n1 head _ q n) ∙ part_kept (λ n. n.count) nodes final (record (node_at nodes final) { next = first }) refl q)
      ∙ walk_stays (node_at nodes q).count q (λ h. n (l.apart q head final h final_in_chain))

  pub cut_freed : walk other (suc m + freed) tail ≡ walk nodes (suc m) tail ++ walk nodes freed first
  cut_freed =
      let not_earlier : ¬ (Has final (walk nodes m tail)) =
      λ h. Once-apart final (walk nodes m tail) (step nodes m tail ∷ []) (subst Once (walk_end nodes m tail) (Once-right (walk nodes kept head) (walk nodes (suc m) tail) once)) h (inl final_is) in
      let v : Node = record (node_at nodes final) { next = first } in
      let ended = walk_ended nodes final v m tail not_earlier in
      let final_within = l.within head final final_in_chain in
      let goes_on : step n1 (suc m) tail ≡ first = step_next n1 m tail ∙ ap (λ b. (node_at n1 b).next) (ended.1 ∙ sym final_is) ∙ ap (λ n. n.next) (node_at-same nodes final v final_within) in
      walk_other (suc m + freed) tail
      ∙ walk_parts n1 (suc m) freed (suc m + freed) tail refl
      ∙ ap (λ bs. bs ++ walk n1 freed (step n1 (suc m) tail)) ended.0
      ∙ ap (λ b. walk nodes (suc m) tail ++ walk n1 freed b) goes_on
      ∙ ap (λ bs. walk nodes (suc m) tail ++ bs) (walk_missed nodes final v freed first (λ h. l.not_freed head final h final_in_chain))

  positions : (b : ℕ) → (node_at other b).position ≡ (node_at nodes b).position
  positions b =
      part_kept (λ n. n.position) n1 head (record (node_at n1 head) { count = kept; last = place }) refl b
      ∙ part_kept (λ n. n.position) nodes final (record (node_at nodes final) { next = first }) refl b

  pub cut_chain : chain_at other head ≡ placed nodes (walk nodes kept head)
  cut_chain = ap (placed other) cut_blocks ∙ placed_same nodes other (walk nodes kept head) (λ b h. positions b)

  pub cut_elsewhere : (q : ℕ) → q ≢ head → chain_at other q ≡ chain_at nodes q
  cut_elsewhere q n = ap (placed other) (cut_others q n) ∙ placed_same nodes other (blocks_at nodes q) (λ b h. positions b)

  -- a block that is still in a chain was in it
  was : (q b : ℕ) → Has b (blocks_at other q) → Has b (blocks_at nodes q)
  was q b h = from_either
      (λ e. subst (λ n. Has b (blocks_at nodes n)) (sym e) (subst (λ bs. Has b bs) (sym old_blocks)
      (Has-left b (walk nodes kept head) (walk nodes (suc m) tail) (subst (λ bs. Has b bs) cut_blocks (subst (λ n. Has b (blocks_at other n)) e h)))))
      (λ n. subst (λ bs. Has b bs) (cut_others q n) h)
      (cases_eq q head)

  cut_off_in : (b : ℕ) → Has b (walk nodes (suc m) tail) → Has b (blocks_at nodes head)
  cut_off_in b h = subst (λ bs. Has b bs) (sym old_blocks) (Has-right b (walk nodes kept head) (walk nodes (suc m) tail) h)

  freed_parts : (b : ℕ) → Has b (walk other (suc m + freed) tail) → Has b (walk nodes (suc m) tail) ⊎ Has b (walk nodes freed first)
  freed_parts b h = Has-append b (walk nodes (suc m) tail) (walk nodes freed first) (subst (λ bs. Has b bs) cut_freed h)

  -- what is cut off is in no chain any more
  gone : (q b : ℕ) → Has b (walk nodes (suc m) tail) → Has b (blocks_at other q) → ⊥
  gone q b h k =
      let e : q ≡ head = l.apart q head b (was q b k) (cut_off_in b h) in
      Once-apart b (walk nodes kept head) (walk nodes (suc m) tail) once (subst (λ bs. Has b bs) cut_blocks (subst (λ n. Has b (blocks_at other n)) e k)) h

  pub length-cut : length other ≡ length nodes
  length-cut = length-set n1 head _ ∙ length-set nodes final _

  pub IsLinked-cut : IsLinked other tail (suc m + freed)
  IsLinked-cut = record {
    within = λ q b h. subst (λ n. b < n) (sym length-cut) (l.within q b (was q b h));
    freed_within = λ b h. subst (λ n. b < n) (sym length-cut) (from_either (λ k. l.within head b (cut_off_in b k)) (l.freed_within b) (freed_parts b h));
    apart = λ q p b h k. l.apart q p b (was q b h) (was p b k);
    not_freed = λ q b h k. from_either (λ c. gone q b c k) (λ f. l.not_freed q b f (was q b k)) (freed_parts b h);
    freed_once = subst Once (sym cut_freed)
        (Once-append (walk nodes (suc m) tail) (walk nodes freed first) (Once-right (walk nodes kept head) (walk nodes (suc m) tail) once) l.freed_once
        (λ b h k. l.not_freed head b k (cut_off_in b h)));
    rising = λ q. from_either
        (λ e. subst (λ n. Rises (chain_at other n)) (sym e) (subst Rises (sym cut_chain)
        (Rises-left (placed nodes (walk nodes kept head)) (placed nodes (walk nodes (suc m) tail)) rises)))
        (λ n. subst Rises (sym (cut_elsewhere q n)) (l.rising q))
        (cases_eq q head);
    last = λ q b bs e. from_either
        (λ f. ap (λ n. (node_at other n).last) f ∙ ending b bs kept refl (sym cut_blocks ∙ ap (blocks_at other) (sym f) ∙ e))
        (λ n. ap (λ n. n.last) (node_at-other n1 head _ q n) ∙ part_kept (λ n. n.last) nodes final (record (node_at nodes final) { next = first }) refl q ∙ l.last q b bs (sym (cut_others q n) ∙ e))
        (cases_eq q head);
  }
    where
      rises : Rises (placed nodes (walk nodes kept head) ++ placed nodes (walk nodes (suc m) tail))
      rises = subst Rises (ap (placed nodes) old_blocks ∙ placed-append nodes (walk nodes kept head) (walk nodes (suc m) tail)) (l.rising head)

      no_end : (bs : List ℕ) (b : ℕ) → [] ≡ bs ++ b ∷ [] → ⊥
      no_end [] b e = cc
      no_end (x ∷ bs) b e = cc

      ending : (b : ℕ) (bs : List ℕ) (n : ℕ) → kept ≡ n → walk nodes kept head ≡ bs ++ b ∷ [] → (node_at other head).last ≡ b
      ending b bs zero z e = absurd (no_end bs b (ap (λ n. walk nodes n head) (sym z) ∙ e))
      ending b bs (suc k) s e = ap (λ n. n.last) (node_at-same n1 head (record (node_at n1 head) { count = kept; last = place }) within_1) ∙ upto k s
          ∙ (same_from_push (walk nodes k head) bs (step nodes k head) b (sym (walk_end nodes k head) ∙ ap (λ n. walk nodes n head) (sym s) ∙ e)).1

  -- the entries that stay are those below a position that lies between
  pub cut_entries : (position : ℕ) → ((k : ℕ) → kept ≡ suc k → (node_at nodes (step nodes k head)).position < position) → position ≤ (node_at nodes tail).position
      → chain_at other head ≡ below (chain_at nodes head) position
  cut_entries position lower upper = cut_chain
      ∙ sym (ap (λ es. below es position) old_chain ∙ below_between (placed nodes (walk nodes kept head)) (placed nodes (walk nodes (suc m) tail)) position (all_below kept refl) all_from)
    where
      old_chain : chain_at nodes head ≡ placed nodes (walk nodes kept head) ++ placed nodes (walk nodes (suc m) tail)
      old_chain = ap (placed nodes) old_blocks ∙ placed-append nodes (walk nodes kept head) (walk nodes (suc m) tail)

      rises : Rises (placed nodes (walk nodes kept head) ++ placed nodes (walk nodes (suc m) tail))
      rises = subst Rises old_chain (l.rising head)

      all_below : (n : ℕ) → kept ≡ n → AllBelow position (placed nodes (walk nodes kept head))
      all_below zero z = subst (λ n. AllBelow position (placed nodes (walk nodes n head))) (sym z) tt
      all_below (suc k) s =
          let e : walk nodes kept head ≡ walk nodes k head ++ step nodes k head ∷ [] = ap (λ n. walk nodes n head) s ∙ walk_end nodes k head in
          let f = ap (placed nodes) e ∙ placed-append nodes (walk nodes k head) (step nodes k head ∷ []) in
          subst (AllBelow position) (sym f)
          (AllBelow-upto position (placed nodes (walk nodes k head)) ((node_at nodes (step nodes k head)).position, step nodes k head)
          (subst Rises f (Rises-left (placed nodes (walk nodes kept head)) (placed nodes (walk nodes (suc m) tail)) rises)) (lower k s))

      all_from : AllFrom position (placed nodes (walk nodes (suc m) tail))
      all_from =
          let r = Rises-right (placed nodes (walk nodes kept head)) (placed nodes (walk nodes (suc m) tail)) rises in
          (upper, AllFrom-above position (node_at nodes tail).position (placed nodes (walk nodes m (node_at nodes tail).next)) upper r.0)
