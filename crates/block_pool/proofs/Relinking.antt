-- What stays of the links, and of the freed blocks, when a chain gets a block more.
use Rattle.std.proofs.Common.{◌≡◌, ◌≢◌, ℕ, zero, suc, ◌<◌, List, [], ◌∷◌, ◌++◌, ◌⊎◌, inl, inr, refl, sym, ap, subst, ◌∙◌, length}
use Rattle.std.proofs.lemmas.Bool.{cases_eq}
use Rattle.std.proofs.lemmas.List.{length-set, same_from_push}
use Rattle.block_pool.specs.Chains.{Rises, inserted}
use Rattle.block_pool.specs.Nodes.{node_at, walk, blocks_at, placed, chain_at, Has, Once, IsLinked, IsLoose, begun}
use Rattle.block_pool.specs.declared.node.Node.{Node}
use Rattle.block_pool.proofs.Lists.{from_either}
use Rattle.block_pool.proofs.Walks.{Has-head, walk_missed, node_at-same, node_at-other, placed_same}

-- the chain of one head, which may be empty, goes to another head, with a block more at its place
pub record Relinks (nodes other : List Node) (first freed old new block position : ℕ) : Type 0 where
  pub len : length other ≡ length nodes
  pub freed_same : walk other freed first ≡ walk nodes freed first
  pub others : (q : ℕ) → q ≢ new → q ≢ old → blocks_at other q ≡ blocks_at nodes q
  pub left : old ≢ new → blocks_at other old ≡ []
  pub from : (b : ℕ) → Has b (blocks_at other new) → (b ≡ block) ⊎ Has b (blocks_at nodes old)
  pub positions : (b : ℕ) → b ≢ block → (node_at other b).position ≡ (node_at nodes b).position
  pub entries : chain_at other new ≡ inserted (chain_at nodes old) position block
  pub rising : Rises (chain_at other new)
  pub last_new : (b : ℕ) (bs : List ℕ) → blocks_at other new ≡ bs ++ b ∷ [] → (node_at other new).last ≡ b
  pub last_others : (q : ℕ) → q ≢ new → (node_at other q).last ≡ (node_at nodes q).last

module _ (nodes other : List Node) (first freed old new block position : ℕ) (l : IsLinked nodes first freed) (loose : IsLoose nodes first freed block)
    (r : Relinks nodes other first freed old new block position) where
  -- a block of another chain, where the old head is another one, was there
  was : (q b : ℕ) → q ≢ new → Has b (blocks_at other q) → Has b (blocks_at nodes q) × (q ≢ old)
  was q b n h = from_either
      (λ e. absurd (subst (λ bs. Has b bs) (ap (blocks_at other) e ∙ r.left (λ p. n (e ∙ p))) h))
      (λ m. (subst (λ bs. Has b bs) (r.others q n m) h, m))
      (cases_eq q old)

  -- the block is in no chain but the new one
  not_elsewhere : (q b : ℕ) → q ≢ new → Has b (blocks_at other q) → Has b (blocks_at other new) → ⊥
  not_elsewhere q b n h k =
      let p = was q b n h in
      from_either (λ e. loose.in_no_chain q (subst (λ c. Has c (blocks_at nodes q)) e p.0)) (λ m. p.1 (l.apart q old b p.0 m)) (r.from b k)

  pub relinked_chain : (q : ℕ) → q ≢ new → q ≢ old → chain_at other q ≡ chain_at nodes q
  relinked_chain q n m = ap (placed other) (r.others q n m)
      ∙ placed_same nodes other (blocks_at nodes q) (λ b h. r.positions b (λ p. loose.in_no_chain q (subst (λ c. Has c (blocks_at nodes q)) p h)))

  pub IsLinked-relinked : IsLinked other first freed
  IsLinked-relinked = record {
    within = λ q b h. subst (λ n. b < n) (sym r.len) (from_either
        (λ e. from_either (λ p. subst (λ n. n < length nodes) (sym p) loose.within) (l.within old b) (r.from b (subst (λ n. Has b (blocks_at other n)) e h)))
        (λ n. l.within q b (was q b n h).0)
        (cases_eq q new));
    freed_within = λ b h. subst (λ n. b < n) (sym r.len) (l.freed_within b (subst (λ bs. Has b bs) r.freed_same h));
    apart = λ q p b h k. from_either
        (λ e. from_either (λ f. e ∙ sym f) (λ n. absurd (not_elsewhere p b n k (subst (λ n. Has b (blocks_at other n)) e h))) (cases_eq p new))
        (λ n. from_either (λ f. absurd (not_elsewhere q b n h (subst (λ n. Has b (blocks_at other n)) f k)))
        (λ m. l.apart q p b (was q b n h).0 (was p b m k).0) (cases_eq p new))
        (cases_eq q new);
    not_freed = λ q b h k.
        let f = subst (λ bs. Has b bs) r.freed_same h in
        from_either
        (λ e. from_either (λ p. loose.not_freed (subst (λ c. Has c (walk nodes freed first)) p f)) (λ m. l.not_freed old b f m) (r.from b (subst (λ n. Has b (blocks_at other n)) e k)))
        (λ n. l.not_freed q b f (was q b n k).0)
        (cases_eq q new);
    freed_once = subst Once (sym r.freed_same) l.freed_once;
    rising = λ q. from_either
        (λ e. subst (λ n. Rises (chain_at other n)) (sym e) r.rising)
        (λ n. from_either
        (λ f. subst (λ n. Rises (chain_at other n)) (sym f) (subst (λ bs. Rises (placed other bs)) (sym (r.left (λ p. n (f ∙ p)))) tt))
        (λ m. subst Rises (sym (relinked_chain q n m)) (l.rising q)) (cases_eq q old))
        (cases_eq q new);
    last = λ q b bs e. from_either
        (λ f. ap (λ n. (node_at other n).last) f ∙ r.last_new b bs (ap (blocks_at other) (sym f) ∙ e))
        (λ n. from_either
        (λ f. absurd (no_end bs b (sym (ap (blocks_at other) f ∙ r.left (λ p. n (f ∙ p))) ∙ e)))
        (λ m. r.last_others q n ∙ l.last q b bs (sym (r.others q n m) ∙ e)) (cases_eq q old))
        (cases_eq q new);
  }
    where
      no_end : (bs : List ℕ) (b : ℕ) → [] ≡ bs ++ b ∷ [] → ⊥
      no_end [] b e = cc
      no_end (x ∷ bs) b e = cc

-- a loose block begins no chain
pub loose_empty : (nodes : List Node) (first freed block : ℕ) → IsLoose nodes first freed block → blocks_at nodes block ≡ []
loose_empty nodes first freed block loose = at (node_at nodes block).count refl
  where
    at : (n : ℕ) → (node_at nodes block).count ≡ n → blocks_at nodes block ≡ []
    at zero e = ap (λ n. walk nodes n block) e
    at (suc n) e = absurd (loose.in_no_chain block (Has-head nodes block n e))

-- ---- a chain of its own
pub Relinks-begun : (nodes : List Node) (first freed block position : ℕ) → IsLoose nodes first freed block → Relinks nodes (begun nodes block position) first freed block block block position
Relinks-begun nodes first freed block position loose =
    let v : Node = record { position = position; next = block; last = block; count = 1 } in
    let here : node_at (begun nodes block position) block ≡ v = node_at-same nodes block v loose.within in
    let blocks : blocks_at (begun nodes block position) block ≡ block ∷ [] = ap (λ n. walk (begun nodes block position) n.count block) here in
    let chain : chain_at (begun nodes block position) block ≡ (position, block) ∷ [] = ap (placed (begun nodes block position)) blocks ∙ ap (λ n. (n.position, block) ∷ []) here in
    record {
      len = length-set nodes block v;
      freed_same = walk_missed nodes block v freed first loose.not_freed;
      others = λ q n m. ap (λ n. walk (begun nodes block position) n.count q) (node_at-other nodes block v q n) ∙ walk_missed nodes block v (node_at nodes q).count q (loose.in_no_chain q);
      left = λ n. absurd (n refl);
      from = λ b h. one b (subst (λ bs. Has b bs) blocks h);
      positions = λ b n. ap (λ n. n.position) (node_at-other nodes block v b n);
      entries = chain ∙ ap (λ es. inserted es position block) (ap (placed nodes) (sym (loose_empty nodes first freed block loose)));
      rising = subst Rises (sym chain) (tt, tt);
      last_new = λ b bs e. ap (λ n. n.last) here ∙ (same_from_push [] bs block b (sym blocks ∙ e)).1;
      last_others = λ q n. ap (λ n. n.last) (node_at-other nodes block v q n);
    }
  where
    one : (b : ℕ) → Has b (block ∷ []) → (b ≡ block) ⊎ Has b (blocks_at nodes block)
    one b (inl e) = inl e
    one b (inr h) = absurd h
