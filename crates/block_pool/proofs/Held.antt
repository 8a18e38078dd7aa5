-- From the nodes to what the links show, and back.
use Rattle.std.proofs.Common.{◌≡◌, ◌≢◌, ℕ, zero, suc, ◌+◌, ◌-◌, ◌<◌, ◌≤◌, List, [], ◌∷◌, ◌++◌, ◌⊎◌, inl, inr, None, Some, IsSome, is_some, refl, sym, ap, subst, ◌∙◌, length, arith, length-append}
use Rattle.std.proofs.lemmas.Bool.{cases_eq, false≢true}
use Rattle.std.specs.FinMap as fin
use Rattle.block_pool.specs.Chains.{Entries, ChainMap, Rises, at, inserted, entries_of, replaced}
use Rattle.block_pool.specs.Links.{LinkState, link_state, blocks_of, IsFree, IsValid, IsHeld}
use Rattle.block_pool.specs.Nodes.{no_node, node_at, walk, step, blocks_at, placed, chain_at, all_chains, Has, Once, IsLinked, IsLoose, IsPlace, IsWithin, begun, put_behind}
use Rattle.block_pool.specs.declared.node.Node.{Node}
use Rattle.block_pool.proofs.Lists.{length-once}
use Rattle.block_pool.proofs.Walks.{walk_end, Has-step, Has-head, length-walk, Once-rising, walk_same, node_at-fresh, placed_same}
use Rattle.block_pool.proofs.Relinking.{Relinks, IsLinked-relinked, Relinks-begun}
use Rattle.block_pool.proofs.Inserting.{Relinks-behind}
use Rattle.block_pool.proofs.Maps.{found, entries_found, nonempty, same_numbers, all_chains-relinked, all_chains-begun}
use Rattle.block_pool.proofs.Searching.{at_here, at_later}

-- ---- what is found is a chain of the nodes
blocks_of-placed : (nodes : List Node) (bs : List ℕ) → blocks_of (placed nodes bs) ≡ bs
blocks_of-placed nodes [] = refl
blocks_of-placed nodes (b ∷ bs) = ap (λ cs. b ∷ cs) (blocks_of-placed nodes bs)

is_given : (es fs : Entries ℕ) → nonempty es ≡ Some fs → es ≡ fs
is_given [] fs e = cc
is_given (x ∷ es) fs e = cc

chain_is : (nodes : List Node) (q : ℕ) (es : Entries ℕ) → fin.get (all_chains nodes) q ≡ Some es → chain_at nodes q ≡ es
chain_is nodes q es e = is_given (chain_at nodes q) es (sym (found nodes q) ∙ e)

has_of : (nodes : List Node) (q b : ℕ) (es : Entries ℕ) → fin.get (all_chains nodes) q ≡ Some es → Has b (blocks_of es) → Has b (blocks_at nodes q)
has_of nodes q b es e h = subst (λ bs. Has b bs) (ap blocks_of (sym (chain_is nodes q es e)) ∙ blocks_of-placed nodes (blocks_at nodes q)) h

-- a block of a chain stands among the entries that are found
of_has : (nodes : List Node) (q b : ℕ) → Has b (blocks_at nodes q) → (es : Entries ℕ) × (fin.get (all_chains nodes) q ≡ Some es) × Has b (blocks_of es)
of_has nodes q b h = given (chain_at nodes q) refl
  where
    given : (es : Entries ℕ) → chain_at nodes q ≡ es → (es : Entries ℕ) × (fin.get (all_chains nodes) q ≡ Some es) × Has b (blocks_of es)
    given [] e = absurd (subst (λ bs. Has b bs) (sym (blocks_of-placed nodes (blocks_at nodes q)) ∙ ap blocks_of e) h)
    given (x ∷ es) e = (x ∷ es, found nodes q ∙ ap nonempty e, subst (λ bs. Has b bs) (sym (blocks_of-placed nodes (blocks_at nodes q)) ∙ ap blocks_of e) h)

pub IsValid-held : (nodes : List Node) (first freed blocks capacity : ℕ) → IsHeld nodes first freed blocks capacity → IsValid (link_state nodes first freed blocks)
IsValid-held nodes first freed blocks capacity h = record {
  within = λ q b es e k. h.linked.within q b (has_of nodes q b es e k);
  apart = λ q p b es fs e f k m. h.linked.apart q p b (has_of nodes q b es e k) (has_of nodes p b fs f m);
  once = λ q es e. subst Once (sym (blocks_of-placed nodes (blocks_at nodes q)) ∙ ap blocks_of (chain_is nodes q es e)) (Once-rising nodes (blocks_at nodes q) (h.linked.rising q));
  rising = λ q es e. subst Rises (chain_is nodes q es e) (h.linked.rising q);
  headed = λ q es e. in_own q es e (chain_is nodes q es e);
  few = h.few;
}
  where
    first_in : (q k : ℕ) → (node_at nodes q).count ≡ suc k → Has q (blocks_at nodes q)
    first_in q k e = Has-head nodes q k e

    in_own : (q : ℕ) (es : Entries ℕ) → fin.get (all_chains nodes) q ≡ Some es → chain_at nodes q ≡ es → Has q (blocks_of es)
    in_own q es g e = at (node_at nodes q).count refl
      where
        own : Has q (blocks_at nodes q) → Has q (blocks_of es)
        own k = subst (λ bs. Has q bs) (sym (blocks_of-placed nodes (blocks_at nodes q)) ∙ ap blocks_of e) k

        at : (n : ℕ) → (node_at nodes q).count ≡ n → Has q (blocks_of es)
        at zero z = absurd (never (sym (found nodes q ∙ ap (λ n. nonempty (placed nodes (walk nodes n q))) z) ∙ g))
          where
            never : None ≡ Some es → ⊥
            never e = cc
        at (suc n) s = own (first_in q n s)

pub IsLoose-free : (nodes : List Node) (first freed blocks block : ℕ) → IsFree (link_state nodes first freed blocks) block → IsLoose nodes first freed block
IsLoose-free nodes first freed blocks block f = record {
  within = f.within;
  in_no_chain = λ q h. let g = of_has nodes q block h in f.in_no_chain q g.0 g.1 g.2;
  not_freed = f.not_freed;
}

pub IsFree-loose : (nodes : List Node) (first freed blocks block : ℕ) → IsLoose nodes first freed block → IsFree (link_state nodes first freed blocks) block
IsFree-loose nodes first freed blocks block l = record {
  within = l.within;
  in_no_chain = λ q es e h. l.in_no_chain q (has_of nodes q block es e h);
  not_freed = l.not_freed;
}

-- a chain that is found has a first block
pub count_of : (nodes : List Node) (q : ℕ) → IsSome (fin.get (all_chains nodes) q) → 1 ≤ (node_at nodes q).count
count_of nodes q some = given (node_at nodes q).count refl
  where
    given : (n : ℕ) → (node_at nodes q).count ≡ n → 1 ≤ (node_at nodes q).count
    given zero e = absurd (false≢true (sym (ap is_some (found nodes q ∙ ap (λ n. nonempty (placed nodes (walk nodes n q))) e)) ∙ some))
    given (suc n) e = omega arith

pub IsWithin-held : (nodes : List Node) (first freed q : ℕ) → IsLinked nodes first freed → 1 ≤ (node_at nodes q).count → IsWithin nodes q
IsWithin-held nodes first freed q l some = record {
  steps = λ k lt. l.within q (step nodes k q) (Has-step nodes k (node_at nodes q).count q lt);
  some = some;
  last = l.last q (step nodes ((node_at nodes q).count - 1) q) (walk nodes ((node_at nodes q).count - 1) q)
      (ap (λ n. walk nodes n q) (let s : (node_at nodes q).count ≡ suc ((node_at nodes q).count - 1) = omega arith in s) ∙ walk_end nodes ((node_at nodes q).count - 1) q);
  rising = l.rising q;
}

-- ---- how many
pub few_freed : (nodes : List Node) (first freed : ℕ) → IsLinked nodes first freed → freed ≤ length nodes
few_freed nodes first freed l = subst (λ n. n ≤ length nodes) (length-walk nodes freed first) (length-once (length nodes) (walk nodes freed first) l.freed_once l.freed_within)

pub room_for : (nodes : List Node) (first freed head block : ℕ) → IsLinked nodes first freed → IsLoose nodes first freed block → (node_at nodes head).count + 1 ≤ length nodes
room_for nodes first freed head block l loose =
    let all : length (block ∷ blocks_at nodes head) ≤ length nodes =
    length-once (length nodes) (block ∷ blocks_at nodes head) (loose.in_no_chain head, Once-rising nodes (blocks_at nodes head) (l.rising head)) within in
    omega (arith, all, length-walk nodes (node_at nodes head).count head)
  where
    within : (b : ℕ) → Has b (block ∷ blocks_at nodes head) → b < length nodes
    within b (inl e) = subst (λ n. n < length nodes) (sym e) loose.within
    within b (inr h) = l.within head b h

-- ---- a block that is claimed
pub IsHeld-fresh : (nodes : List Node) (first freed blocks capacity : ℕ) → IsHeld nodes first freed blocks capacity → length nodes < blocks → IsHeld (nodes ++ no_node ∷ []) first freed blocks capacity
IsHeld-fresh nodes first freed blocks capacity h lt = record { linked = linked; few = omega (arith, more); room = h.room }
  where
    other : List Node
    other = nodes ++ no_node ∷ []

    more : length (nodes ++ no_node ∷ []) ≡ length nodes + 1
    more = length-append nodes (no_node ∷ [])

    walks : (k b : ℕ) → walk (nodes ++ no_node ∷ []) k b ≡ walk nodes k b
    walks k b = walk_same nodes (nodes ++ no_node ∷ []) (λ b. ap (λ n. n.next) (node_at-fresh nodes b)) k b

    blocks_same : (q : ℕ) → blocks_at (nodes ++ no_node ∷ []) q ≡ blocks_at nodes q
    blocks_same q = ap (λ n. walk (nodes ++ no_node ∷ []) n.count q) (node_at-fresh nodes q) ∙ walks (node_at nodes q).count q

    chains_same : (q : ℕ) → chain_at (nodes ++ no_node ∷ []) q ≡ chain_at nodes q
    chains_same q = ap (placed (nodes ++ no_node ∷ [])) (blocks_same q) ∙ placed_same nodes (nodes ++ no_node ∷ []) (blocks_at nodes q) (λ b k. ap (λ n. n.position) (node_at-fresh nodes b))

    back : (q b : ℕ) → Has b (blocks_at (nodes ++ no_node ∷ []) q) → Has b (blocks_at nodes q)
    back q b k = subst (λ bs. Has b bs) (blocks_same q) k

    back_freed : (b : ℕ) → Has b (walk (nodes ++ no_node ∷ []) freed first) → Has b (walk nodes freed first)
    back_freed b k = subst (λ bs. Has b bs) (walks freed first) k

    linked : IsLinked (nodes ++ no_node ∷ []) first freed
    linked = record {
      within = λ q b k. let lt = h.linked.within q b (back q b k) in omega (arith, more);
      freed_within = λ b k. let lt = h.linked.freed_within b (back_freed b k) in omega (arith, more);
      apart = λ q p b k m. h.linked.apart q p b (back q b k) (back p b m);
      not_freed = λ q b k m. h.linked.not_freed q b (back_freed b k) (back q b m);
      freed_once = subst Once (sym (walks freed first)) h.linked.freed_once;
      rising = λ q. subst Rises (sym (chains_same q)) (h.linked.rising q);
      last = λ q b bs e. ap (λ n. n.last) (node_at-fresh nodes q) ∙ h.linked.last q b bs (sym (blocks_same q) ∙ e);
    }

pub chains-fresh : (nodes : List Node) → all_chains (nodes ++ no_node ∷ []) ≡ all_chains nodes
chains-fresh nodes = same_numbers (all_chains (nodes ++ no_node ∷ [])) (all_chains nodes) (λ q. found (nodes ++ no_node ∷ []) q ∙ ap nonempty (same q) ∙ sym (found nodes q))
  where
    same : (q : ℕ) → chain_at (nodes ++ no_node ∷ []) q ≡ chain_at nodes q
    same q = ap (λ n. placed (nodes ++ no_node ∷ []) (walk (nodes ++ no_node ∷ []) n.count q)) (node_at-fresh nodes q)
        ∙ ap (placed (nodes ++ no_node ∷ [])) (walk_same nodes (nodes ++ no_node ∷ []) (λ b. ap (λ n. n.next) (node_at-fresh nodes b)) (node_at nodes q).count q)
        ∙ placed_same nodes (nodes ++ no_node ∷ []) (blocks_at nodes q) (λ b k. ap (λ n. n.position) (node_at-fresh nodes b))

pub freed-fresh : (nodes : List Node) (k b : ℕ) → walk (nodes ++ no_node ∷ []) k b ≡ walk nodes k b
freed-fresh nodes k b = walk_same nodes (nodes ++ no_node ∷ []) (λ b. ap (λ n. n.next) (node_at-fresh nodes b)) k b

pub IsLoose-fresh : (nodes : List Node) (first freed : ℕ) → IsLinked nodes first freed → IsLoose (nodes ++ no_node ∷ []) first freed (length nodes)
IsLoose-fresh nodes first freed l = record {
  within = omega (arith, length-append nodes (no_node ∷ []));
  in_no_chain = λ q h. let lt = l.within q (length nodes) (subst (λ bs. Has (length nodes) bs) (same q) h) in absurd (omega arith);
  not_freed = λ h. let lt = l.freed_within (length nodes) (subst (λ bs. Has (length nodes) bs) (freed-fresh nodes freed first) h) in absurd (omega arith);
}
  where
    same : (q : ℕ) → blocks_at (nodes ++ no_node ∷ []) q ≡ blocks_at nodes q
    same q = ap (λ n. walk (nodes ++ no_node ∷ []) n.count q) (node_at-fresh nodes q) ∙ freed-fresh nodes (node_at nodes q).count q

-- the next of the freed blocks
pub IsLinked-next : (nodes : List Node) (first freed : ℕ) → IsLinked nodes first (suc freed) → IsLinked nodes (node_at nodes first).next freed
IsLinked-next nodes first freed l = record {
  within = l.within;
  freed_within = λ b h. l.freed_within b (inr h);
  apart = l.apart;
  not_freed = λ q b h k. l.not_freed q b (inr h) k;
  freed_once = l.freed_once.1;
  rising = l.rising;
  last = l.last;
}

pub IsLoose-next : (nodes : List Node) (first freed : ℕ) → IsLinked nodes first (suc freed) → IsLoose nodes (node_at nodes first).next freed first
IsLoose-next nodes first freed l = record {
  within = l.freed_within first (inl refl);
  in_no_chain = λ q h. l.not_freed q first (inl refl) h;
  not_freed = l.freed_once.0;
}

-- ---- a block that is linked
-- no block of the chain is at a position where nothing is
absent_at : (nodes : List Node) (p k n b : ℕ) → k < n → at (placed nodes (walk nodes n b)) p ≡ None → (node_at nodes (step nodes k b)).position ≢ p
absent_at nodes p k zero b lt none e = absurd (omega arith)
absent_at nodes p zero (suc n) b lt none e = let there = at_here p ((node_at nodes b).position, b) (placed nodes (walk nodes n (node_at nodes b).next)) e in cc
absent_at nodes p (suc k) (suc n) b lt none e = here (cases_eq (node_at nodes b).position p)
    (λ m. absent_at nodes p k n (node_at nodes b).next (omega arith) (sym (at_later p ((node_at nodes b).position, b) (placed nodes (walk nodes n (node_at nodes b).next)) m) ∙ none) e)
  where
    here : ((node_at nodes b).position ≡ p) ⊎ ((node_at nodes b).position ≡ p → ⊥) → ((node_at nodes b).position ≢ p → ⊥) → ⊥
    here (inl e) more = let there = at_here p ((node_at nodes b).position, b) (placed nodes (walk nodes n (node_at nodes b).next)) e in cc
    here (inr m) more = more m

pub first_absent : (nodes : List Node) (p q : ℕ) → 1 ≤ (node_at nodes q).count → at (entries_of (all_chains nodes) (Some q)) p ≡ None → (node_at nodes q).position ≢ p
first_absent nodes p q some none = absent_at nodes p 0 (node_at nodes q).count q some (sym (ap (λ es. at es p) (entries_found nodes q)) ∙ none)

pub Relinks-place : (nodes : List Node) (first freed head block position place kept : ℕ) → IsLinked nodes first freed → IsLoose nodes first freed block → IsPlace nodes head position place kept
    → at (entries_of (all_chains nodes) (Some head)) position ≡ None → Relinks nodes (put_behind nodes head place block position) first freed head head block position
Relinks-place nodes first freed head block position place kept l loose is none =
    let same : suc (kept - 1) ≡ kept = omega (arith, is.some) in
    let none_at : at (chain_at nodes head) position ≡ None = sym (ap (λ es. at es position) (entries_found nodes head)) ∙ none in
    subst (λ b. Relinks nodes (put_behind nodes head b block position) first freed head head block position) (sym is.at)
    (Relinks-behind nodes first freed head block position (kept - 1) ((node_at nodes head).count - kept) l loose (omega (arith, is.some, is.few))
    (subst (λ b. (node_at nodes b).position < position) is.at is.lower)
    (λ lt. let more : kept < (node_at nodes head).count = omega arith in
    let le = is.upper more in
    let apart = absent_at nodes position kept (node_at nodes head).count head more none_at in
    subst (λ n. position < (node_at nodes (step nodes n head)).position) (sym same) (omega arith)))

-- a chain that goes on under a head, after a block is linked
pub IsHeld-relinked : (nodes other : List Node) (first freed blocks capacity old new block position : ℕ) → IsHeld nodes first freed blocks capacity → IsLoose nodes first freed block
    → Relinks nodes other first freed old new block position → IsHeld other first freed blocks capacity
IsHeld-relinked nodes other first freed blocks capacity old new block position h loose r = record {
  linked = IsLinked-relinked nodes other first freed old new block position h.linked loose r;
  few = subst (λ n. n ≤ blocks) (sym r.len) h.few;
  room = h.room;
}

same_state : (chains other : ChainMap ℕ) (used length : ℕ) (freed walked : List ℕ) (blocks : ℕ) → chains ≡ other → used ≡ length → freed ≡ walked
    → ◌≡◌ {A = LinkState} (record { chains = chains; used = used; freed = freed; blocks = blocks }) (record { chains = other; used = length; freed = walked; blocks = blocks })
same_state chains other used length freed walked blocks e f g i = record { chains = e i; used = f i; freed = g i; blocks = blocks }

pub state-relinked : (nodes other : List Node) (first freed blocks old new block position : ℕ) → IsLinked nodes first freed → IsLoose nodes first freed block
    → Relinks nodes other first freed old new block position
    → link_state other first freed blocks
    ≡ record (link_state nodes first freed blocks) { chains = replaced (all_chains nodes) (Some old) (Some new) (inserted (entries_of (all_chains nodes) (Some old)) position block) }
state-relinked nodes other first freed blocks old new block position l loose r =
    same_state _ _ _ _ _ _ blocks (all_chains-relinked nodes other first freed old new block position l loose r) r.len r.freed_same

pub state-begun : (nodes : List Node) (first freed blocks block position : ℕ) → IsLinked nodes first freed → IsLoose nodes first freed block
    → link_state (begun nodes block position) first freed blocks ≡ record (link_state nodes first freed blocks) { chains = replaced (all_chains nodes) None (Some block) ((position, block) ∷ []) }
state-begun nodes first freed blocks block position l loose =
    let r = Relinks-begun nodes first freed block position loose in
    same_state _ _ _ _ _ _ blocks (all_chains-begun nodes (begun nodes block position) first freed block position l loose r) r.len r.freed_same
