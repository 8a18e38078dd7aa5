-- What each call of the links leaves, for links that show a value.
use Rattle.std.proofs.Common.{◌≡◌, ◌≢◌, ℕ, suc, ◌+◌, ◌-◌, ◌<◌, ◌≤◌, cond, List, [], ◌∷◌, ◌++◌, Option, None, Some, IsSome, refl, sym, ap, subst, ◌∙◌, length, nat_eq, arith}
use Rattle.std.proofs.lemmas.Bool.{cases_eq, false≢true, ne_eqb}
use Rattle.std.proofs.lemmas.List.{length-map, append-nil}
use Rattle.std.specs.FinMap as fin
use Rattle.std.specs.Option.{unwrap_or}
use Rattle.block_pool.specs.Chains.{Entries, ChainMap, Rises, at, below, inserted, entries_of, replaced, head_of}
use Rattle.block_pool.specs.Links.{LinkState, link_state, free_of, IsFree, IsHeld}
use Rattle.block_pool.specs.Nodes.{no_node, node_at, walk, step, blocks_at, placed, chain_at, all_chains, IsLinked, IsLoose, IsPlace, IsWithin, begun, put_before, put_behind, cut_behind}
use Rattle.block_pool.specs.declared.node.Node.{Node}
use Rattle.block_pool.proofs.Lists.{from_either, AllBelow, AllBelow-upto, below_between}
use Rattle.block_pool.proofs.Walks.{Has-step, walk_end, length-walk, placed-append}
use Rattle.block_pool.proofs.Relinking.{Relinks, Relinks-begun}
use Rattle.block_pool.proofs.Inserting.{Relinks-before}
use Rattle.block_pool.proofs.Cutting.{IsLinked-cut, cut_chain, cut_elsewhere, cut_entries, length-cut}
use Rattle.block_pool.proofs.Maps.{found, nonempty, entries_found, same_numbers, put_same, put_other, taken_other, all_chains-cut, all_chains-gone}
use Rattle.block_pool.proofs.Held.{IsLoose-free, IsFree-loose, IsHeld-fresh, IsLoose-fresh, chains-fresh, IsLinked-next, IsLoose-next, IsWithin-held, count_of, few_freed, room_for, first_absent}
use Rattle.block_pool.proofs.Held.{Relinks-place, IsHeld-relinked, state-relinked, state-begun}

-- ---- chains that stay as they are
is_some_given : {X : Type 0} (o : Option X) → IsSome o → (x : X) × (o ≡ Some x)
is_some_given None s = absurd (false≢true s)
is_some_given (Some x) s = (x, refl)

replaced_same : {V : Type 0} (m : ChainMap V) (head : ℕ) → IsSome (fin.get m head) → m ≡ replaced m (Some head) (Some head) (entries_of m (Some head))
replaced_same m head some =
    let x = is_some_given (fin.get m head) some in
    let es = entries_of m (Some head) in
    let there : fin.get m head ≡ Some es = x.1 ∙ ap (λ o. Some (unwrap_or o [])) (sym x.1) in
    same_numbers m (fin.insert (fin.remove m head) head es) (λ q. from_either
    (λ e. ap (fin.get m) e ∙ there ∙ sym (ap (fin.get (fin.insert (fin.remove m head) head es)) e ∙ put_same (fin.remove m head) head es))
    (λ n. sym (put_other (fin.remove m head) head es q n ∙ taken_other m head q n))
    (cases_eq q head))

never_empty : (nodes : List Node) (n : ℕ) (fs : Entries ℕ) → fin.get (all_chains nodes) n ≡ Some fs → fs ≢ []
never_empty nodes n fs e f = at (chain_at nodes n) (sym (found nodes n) ∙ e ∙ ap Some f)
  where
    at : (es : Entries ℕ) → nonempty es ≡ Some [] → ⊥
    at [] e = cc
    at (x ∷ es) e = cc

first_entry : (m : ChainMap ℕ) (head : ℕ) → IsSome (fin.get m head) → ((n : ℕ) (fs : Entries ℕ) → fin.get m n ≡ Some fs → fs ≢ []) → entries_of m (Some head) ≢ []
first_entry m head some never e =
    let x = is_some_given (fin.get m head) some in
    never head x.0 x.1 (sym (ap (λ o. unwrap_or o []) x.1) ∙ e)

headed : (head : ℕ) (es : Entries ℕ) → es ≢ [] → Some head ≡ head_of head es
headed head [] n = absurd (n refl)
headed head (e ∷ es) n = refl

all_below : {nodes : List Node} (head position place kept : ℕ) → IsWithin nodes head → IsPlace nodes head position place kept → kept ≡ (node_at nodes head).count
    → below (chain_at nodes head) position ≡ chain_at nodes head
all_below {nodes = nodes} head position place kept w p all =
    let e : chain_at nodes head ≡ placed nodes (walk nodes (kept - 1) head) ++ ((node_at nodes place).position, place) ∷ [] =
    ap (λ n. placed nodes (walk nodes n head)) (let s : (node_at nodes head).count ≡ suc (kept - 1) = omega (arith, p.some) in s)
    ∙ ap (placed nodes) (walk_end nodes (kept - 1) head) ∙ placed-append nodes (walk nodes (kept - 1) head) (step nodes (kept - 1) head ∷ [])
    ∙ ap (λ b. placed nodes (walk nodes (kept - 1) head) ++ ((node_at nodes b).position, b) ∷ []) (sym p.at) in
    let xs = chain_at nodes head in
    ap (λ es. below es position) (sym (append-nil xs))
    ∙ below_between xs [] position
    (subst (AllBelow position) (sym e) (AllBelow-upto position (placed nodes (walk nodes (kept - 1) head)) ((node_at nodes place).position, place) (subst Rises e w.rising) p.lower)) tt

module _ {nodes : List Node} {first freed blocks capacity : ℕ} (h : IsHeld nodes first freed blocks capacity) (v : LinkState) (is : link_state nodes first freed blocks ≡ v) where
  pub loose : (block : ℕ) → IsFree v block → IsLoose nodes first freed block
  loose block f = IsLoose-free nodes first freed blocks block (subst (λ w. IsFree w block) (sym is) f)

  pub whole : (head : ℕ) → IsSome (fin.get v.chains head) → IsWithin nodes head
  whole head some = IsWithin-held nodes first freed head h.linked (count_of nodes head (subst (λ w. IsSome (fin.get w.chains head)) (sym is) some))

  pub entries_are : (head : ℕ) → chain_at nodes head ≡ entries_of v.chains (Some head)
  entries_are head = subst (λ w. chain_at nodes head ≡ entries_of w.chains (Some head)) is (sym (entries_found nodes head))

  absent_is : (head position : ℕ) → at (entries_of v.chains (Some head)) position ≡ None → at (entries_of (all_chains nodes) (Some head)) position ≡ None
  absent_is head position none = subst (λ w. at (entries_of w.chains (Some head)) position ≡ None) (sym is) none

  pub not_first : (head position : ℕ) → IsSome (fin.get v.chains head) → at (entries_of v.chains (Some head)) position ≡ None → (node_at nodes head).position ≢ position
  not_first head position some none = first_absent nodes position head (whole head some).some (absent_is head position none)

  pub relinks_place : (head block position place kept : ℕ) → IsFree v block → IsPlace nodes head position place kept → at (entries_of v.chains (Some head)) position ≡ None
      → Relinks nodes (put_behind nodes head place block position) first freed head head block position
  relinks_place head block position place kept f p none = Relinks-place nodes first freed head block position place kept h.linked (loose block f) p (absent_is head position none)

  pub relinks_before : (head block position : ℕ) → IsSome (fin.get v.chains head) → IsFree v block → position < (node_at nodes head).position
      → Relinks nodes (put_before nodes head block position) first freed head block block position
  relinks_before head block position some f lt =
      let w = whole head some in
      Relinks-before nodes first freed head block position ((node_at nodes head).count - 1) h.linked (loose block f) (omega (arith, w.some)) lt

  pub relinks_begun : (block position : ℕ) → IsFree v block → Relinks nodes (begun nodes block position) first freed block block block position
  relinks_begun block position f = Relinks-begun nodes first freed block position (loose block f)

  -- the links are held as before
  pub held_after : (other result : List Node) (old new block position more : ℕ) → IsFree v block → Relinks nodes other first freed old new block position → result ≡ other → more ≡ capacity
      → IsHeld result first freed blocks more
  held_after other result old new block position more f r e c =
      subst (λ n. IsHeld n first freed blocks more) (sym e)
      (subst (λ n. IsHeld other first freed blocks n) (sym c) (IsHeld-relinked nodes other first freed blocks capacity old new block position h (loose block f) r))

  -- the chain of this head is another one
  pub shows_after : (other result : List Node) (head : Option ℕ) (old new block position : ℕ) → head ≡ Some old → IsFree v block
      → Relinks nodes other first freed old new block position → result ≡ other
      → link_state result first freed blocks ≡ record v { chains = replaced v.chains head (Some new) (inserted (entries_of v.chains head) position block) }
  shows_after other result head old new block position o f r e =
      ap (λ n. link_state n first freed blocks) e
      ∙ subst (λ w. link_state other first freed blocks ≡ record w { chains = replaced w.chains head (Some new) (inserted (entries_of w.chains head) position block) }) is
      (subst (λ q. link_state other first freed blocks
      ≡ record (link_state nodes first freed blocks) { chains = replaced (all_chains nodes) q (Some new) (inserted (entries_of (all_chains nodes) q) position block) }) (sym o)
      (state-relinked nodes other first freed blocks old new block position h.linked (loose block f) r))

  pub shows_begun : (result : List Node) (head : Option ℕ) (block position : ℕ) → head ≡ None → IsFree v block → result ≡ begun nodes block position
      → link_state result first freed blocks ≡ record v { chains = replaced v.chains head (Some block) (inserted (entries_of v.chains head) position block) }
  shows_begun result head block position o f e =
      ap (λ n. link_state n first freed blocks) e
      ∙ subst (λ w. link_state (begun nodes block position) first freed blocks ≡ record w { chains = replaced w.chains head (Some block) (inserted (entries_of w.chains head) position block) }) is
      (subst (λ q. link_state (begun nodes block position) first freed blocks
      ≡ record (link_state nodes first freed blocks) { chains = replaced (all_chains nodes) q (Some block) (inserted (entries_of (all_chains nodes) q) position block) }) (sym o)
      (state-begun nodes first freed blocks block position h.linked (loose block f)))

  pub room_is : (head block : ℕ) → IsFree v block → (node_at nodes head).count + 1 ≤ length nodes
  room_is head block f = room_for nodes first freed head block h.linked (loose block f)

  -- ---- a block that is claimed, the next of the freed ones
  pub next_within : 0 < freed → first < length nodes
  next_within lt = h.linked.freed_within first (Has-step nodes 0 freed first lt)

  pub next_held : 0 < freed → (node : Node) → node ≡ node_at nodes first → IsHeld nodes node.next (freed - 1) blocks capacity
  next_held lt node e = subst (λ (n : Node). IsHeld nodes n.next (freed - 1) blocks capacity) (sym e) (record {
    linked = IsLinked-next nodes first (freed - 1) (subst (λ n. IsLinked nodes first n) (let s : freed ≡ suc (freed - 1) = omega arith in s) h.linked);
    few = h.few;
    room = h.room;
  })

  pub next_free : 0 < freed → (node : Node) → node ≡ node_at nodes first → IsFree (link_state nodes node.next (freed - 1) blocks) first
  next_free lt node e = subst (λ (n : Node). IsFree (link_state nodes n.next (freed - 1) blocks) first) (sym e)
      (IsFree-loose nodes (node_at nodes first).next (freed - 1) blocks first
      (IsLoose-next nodes first (freed - 1) (subst (λ n. IsLinked nodes first n) (let s : freed ≡ suc (freed - 1) = omega arith in s) h.linked)))

  pub next_used : 0 < freed → (length nodes ≡ cond (nat_eq first v.used) (v.used + 1) v.used) × (first ≤ v.used)
  next_used lt =
      let within = next_within lt in
      let used : length nodes ≡ v.used = ap (λ w. w.used) is in
      (used ∙ sym (ap (λ t. cond t (v.used + 1) v.used) (ne_eqb first v.used (λ e. absurd (omega arith)))), omega arith)

  -- ---- one that was never used
  pub fresh_held : (result : List Node) (more : ℕ) → length nodes < blocks → result ≡ nodes ++ no_node ∷ [] → capacity ≤ more → IsHeld result first freed blocks more
  fresh_held result more lt e le =
      let held = IsHeld-fresh nodes first freed blocks capacity h lt in
      subst (λ n. IsHeld n first freed blocks more) (sym e) (record { linked = held.linked; few = held.few; room = omega (arith, held.room) })

  pub fresh_free : (result : List Node) → result ≡ nodes ++ no_node ∷ [] → IsFree (link_state result first freed blocks) (length nodes)
  fresh_free result e =
      subst (λ n. IsFree (link_state n first freed blocks) (length nodes)) (sym e) (IsFree-loose (nodes ++ no_node ∷ []) first freed blocks (length nodes) (IsLoose-fresh nodes first freed h.linked))

  pub fresh_shows : (result : List Node) → result ≡ nodes ++ no_node ∷ [] → all_chains result ≡ v.chains
  fresh_shows result e = ap all_chains e ∙ chains-fresh nodes ∙ ap (λ w. w.chains) is

  -- ---- a cut, which keeps so many blocks up to this one
  -- what the blocks that are kept and the next one are to the position
  pub record IsCut (head position place kept : ℕ) : Type 0 where
    pub less : kept < (node_at nodes head).count
    pub upto : (k : ℕ) → kept ≡ suc k → place ≡ step nodes k head
    pub lower : (k : ℕ) → kept ≡ suc k → (node_at nodes (step nodes k head)).position < position
    pub upper : position ≤ (node_at nodes (step nodes kept head)).position

  -- the entries from the position on go, and their blocks are freed
  module _ (head position place kept : ℕ) (some : IsSome (fin.get v.chains head)) (cut : IsCut head position place kept) where
    abbrev after : List Node
    after = cut_behind nodes head place kept first

    abbrev cut_off : ℕ
    cut_off = (node_at nodes head).count - kept

    abbrev left : Entries ℕ
    left = below (entries_of v.chains (Some head)) position

    more : ℕ
    more = cut_off - 1

    there : (node_at nodes head).count ≡ kept + suc more
    unfolding more
    there = let lt = cut.less in omega arith

    off_is : suc more ≡ cut_off
    unfolding more
    off_is = let lt = cut.less in omega arith

    pub cut_linked : IsLinked after (step nodes kept head) (freed + cut_off)
    cut_linked = subst (λ n. IsLinked after (step nodes kept head) n) (let e = off_is in let s : suc more + freed ≡ freed + cut_off = omega arith in s)
        (IsLinked-cut nodes first freed head place kept more h.linked there cut.upto)

    pub held_cut : (result : List Node) (room : ℕ) → result ≡ after → room ≡ capacity → IsHeld result (step nodes kept head) (freed + cut_off) blocks room
    held_cut result room e c = subst (λ n. IsHeld n (step nodes kept head) (freed + cut_off) blocks room) (sym e) (record {
      linked = cut_linked;
      few = subst (λ n. n ≤ blocks) (sym (length-cut nodes first freed head place kept more h.linked there cut.upto)) h.few;
      room = subst (λ n. blocks ≤ n) (sym c) h.room;
    })

    -- the count of freed blocks is at most that of the nodes
    pub fits_cut : freed + cut_off ≤ length nodes
    fits_cut = subst (λ n. freed + cut_off ≤ n) (length-cut nodes first freed head place kept more h.linked there cut.upto) (few_freed after (step nodes kept head) (freed + cut_off) cut_linked)

    kept_entries : left ≡ placed nodes (walk nodes kept head)
    kept_entries = ap (λ es. below es position) (sym (entries_are head))
        ∙ sym (cut_entries nodes first freed head place kept more h.linked there cut.upto position cut.lower cut.upper)
        ∙ cut_chain nodes first freed head place kept more h.linked there cut.upto

    chain_after : chain_at after head ≡ placed nodes (walk nodes kept head)
    chain_after = cut_chain nodes first freed head place kept more h.linked there cut.upto

    -- free blocks and those that are left
    pub free_cut : (result : List Node) → result ≡ after
        → free_of (link_state result (step nodes kept head) (freed + cut_off) blocks) + length left ≡ free_of v + length (entries_of v.chains (Some head))
    free_cut result e =
        let len : length result ≡ length nodes = ap length e ∙ length-cut nodes first freed head place kept more h.linked there cut.upto in
        let was : free_of v ≡ freed + (blocks - length nodes) = subst (λ w. free_of w ≡ freed + (blocks - length nodes)) is (ap (λ n. n + (blocks - length nodes)) (length-walk nodes freed first)) in
        let walked : length (walk result (freed + cut_off) (step nodes kept head)) ≡ freed + cut_off = length-walk result (freed + cut_off) (step nodes kept head) in
        let kept_is : length left ≡ kept = ap length kept_entries ∙ length-map (walk nodes kept head) (λ b. ((node_at nodes b).position, b)) ∙ length-walk nodes kept head in
        let all_is : length (entries_of v.chains (Some head)) ≡ (node_at nodes head).count =
        ap length (sym (entries_are head)) ∙ length-map (blocks_at nodes head) (λ b. ((node_at nodes b).position, b)) ∙ length-walk nodes (node_at nodes head).count head in
        let lt = cut.less in
        omega arith

    pub gone_cut : (result : List Node) → result ≡ after → kept ≡ 0 → (all_chains result ≡ replaced v.chains (Some head) None left) × (None ≡ head_of head left)
    gone_cut result e z =
        let empty : left ≡ [] = kept_entries ∙ ap (λ n. placed nodes (walk nodes n head)) z in (
          ap all_chains e
              ∙ subst (λ w. all_chains after ≡ replaced w.chains (Some head) None []) is
              (all_chains-gone nodes after head (cut_elsewhere nodes first freed head place kept more h.linked there cut.upto) (chain_after ∙ ap (λ n. placed nodes (walk nodes n head)) z)),
          ap (head_of head) (sym empty),
        )

    pub some_cut : (result : List Node) (k : ℕ) → result ≡ after → kept ≡ suc k → (all_chains result ≡ replaced v.chains (Some head) (Some head) left) × (Some head ≡ head_of head left)
    some_cut result k e s =
        let es = placed nodes (walk nodes k (node_at nodes head).next) in
        let here : left ≡ ((node_at nodes head).position, head) ∷ es = kept_entries ∙ ap (λ n. placed nodes (walk nodes n head)) s in (
          ap all_chains e
              ∙ subst (λ w. all_chains after ≡ replaced w.chains (Some head) (Some head) (((node_at nodes head).position, head) ∷ es)) is
              (all_chains-cut nodes after head ((node_at nodes head).position, head) es (cut_elsewhere nodes first freed head place kept more h.linked there cut.upto)
              (chain_after ∙ ap (λ n. placed nodes (walk nodes n head)) s))
              ∙ ap (λ fs. replaced v.chains (Some head) (Some head) fs) (sym here),
          ap (head_of head) (sym here),
        )

  -- ---- where the whole chain is cut, where a part of it, and where none
  pub IsCut-whole : (head position : ℕ) → IsSome (fin.get v.chains head) → position ≤ (node_at nodes head).position → IsCut head position head 0
  IsCut-whole head position some le = record {
    less = (whole head some).some;
    upto = λ k e. absurd (omega arith);
    lower = λ k e. absurd (omega arith);
    upper = le;
  }

  pub IsCut-place : (head position place kept : ℕ) → IsPlace nodes head position place kept → kept ≢ (node_at nodes head).count → IsCut head position place kept
  IsCut-place head position place kept p apart = record {
    less = less;
    upto = λ k e. p.at ∙ ap (λ n. step nodes n head) (one_less k e);
    lower = λ k e. subst (λ b. (node_at nodes b).position < position) (p.at ∙ ap (λ n. step nodes n head) (one_less k e)) p.lower;
    upper = p.upper less;
  }
    where
      less : kept < (node_at nodes head).count
      less = let le = p.few in omega arith

      one_less : (k : ℕ) → kept ≡ suc k → kept - 1 ≡ k
      one_less k e = omega arith

  pub uncut : (head position place kept : ℕ) → IsSome (fin.get v.chains head) → IsPlace nodes head position place kept → kept ≡ (node_at nodes head).count
      → (v.chains ≡ replaced v.chains (Some head) (Some head) (below (entries_of v.chains (Some head)) position)) × (Some head ≡ head_of head (below (entries_of v.chains (Some head)) position))
      × (below (entries_of v.chains (Some head)) position ≡ entries_of v.chains (Some head))
  uncut head position place kept some p all =
      let es = entries_of v.chains (Some head) in
      let whole_below : below es position ≡ es = ap (λ fs. below fs position) (sym (entries_are head)) ∙ all_below head position place kept (whole head some) p all ∙ entries_are head in (
        replaced_same v.chains head some ∙ ap (λ fs. replaced v.chains (Some head) (Some head) fs) (sym whole_below),
        headed head es (first_entry v.chains head some (subst (λ w. (n : ℕ) (fs : Entries ℕ) → fin.get w.chains n ≡ Some fs → fs ≢ []) is (never_empty nodes))) ∙ ap (head_of head) (sym whole_below),
        whole_below,
      )
