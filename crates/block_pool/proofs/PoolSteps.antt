-- What each call of the pool leaves, for links and bytes that show a pool.
use Rattle.std.proofs.Common.{◌≡◌, ◌≢◌, ℕ, zero, suc, ◌+◌, ◌-◌, ◌<◌, ◌≤◌, Bool, true, false, cond, List, [], ◌∷◌, ◌⊎◌, inl, inr, Option, None, Some, IsSome, is_some, refl, sym, ap, subst, ◌∙◌}
use Rattle.std.proofs.Common.{length, get_or, set, nat_eq, nat_lt, nat_cmp, arith}
use Rattle.std.proofs.lemmas.Bool.{cases_eq, false≢true, le-ltb}
use Rattle.std.proofs.lemmas.List.{get_or-set_other, length-set}
use Rattle.std.specs.FinMap as fin
use Rattle.std.specs.Map.{set_value}
use Rattle.std.specs.Option.{unwrap_or, option_map}
use Rattle.staging_spec.specs.Content.{zeros}
use Rattle.block_pool.specs.Blocks.{RegionBytes, overwritten, readied}
use Rattle.block_pool.specs.Chains.{Entries, ChainMap, Rises, AllAbove, entries_of, without, replaced, at, inserted, below, head_of, IsChain}
use Rattle.block_pool.specs.Links.{LinkState, free_of, blocks_of, IsFree, IsValid}
use Rattle.block_pool.specs.Nodes.{Has, Once}
use Rattle.block_pool.specs.Pool.{Pool, filled, with_bytes, pool_of, total, AllOf, AllSized, IsFilled, IsPool, Keeps, put_block, cut_chain, cut_head, write_block, block_at, give_chain}
use Rattle.block_pool.proofs.Lists.{from_either}
use Rattle.block_pool.proofs.Maps.{same_numbers, put_same, put_other, taken_other}
use Rattle.block_pool.proofs.Totals.{IsBelow, total-empty, total-replaced, total-without, Keeps-replaced, Keeps-without}
use Rattle.block_pool.proofs.PoolLaws.{at_filled, filled-inserted, filled-below, filled_same, filled-set, has_at, length-filled, get-with_bytes, entries-with_bytes, with_bytes-replaced}
use Rattle.block_pool.proofs.PoolLaws.{with_bytes_same, sized_at, sized-set, length-overwritten, ready_sized, ready_length, ready_other, ready_here}

length-inserted : (es : Entries ℕ) (p b : ℕ) → length (inserted es p b) ≡ length es + 1
length-inserted [] p b = refl
length-inserted (e ∷ es) p b = step (nat_lt p e.0) (length-inserted es p b)
  where
    step : (t : Bool) → length (inserted es p b) ≡ length es + 1 → length (cond t ((p, b) ∷ e ∷ es) (e ∷ inserted es p b)) ≡ suc (length es) + 1
    step true more = omega arith
    step false more = omega arith

is_given : {X : Type 0} (o : Option X) → IsSome o → (x : X) × (o ≡ Some x)
is_given None s = absurd (false≢true s)
is_given (Some x) s = (x, refl)

some_mapped : {X Y : Type 0} (f : X → Y) (o : Option X) → IsSome (option_map f o) → IsSome o
some_mapped f None s = s
some_mapped f (Some x) s = refl

same_pool : (chains other : ChainMap (List ℕ)) (free less blocks more : ℕ) → chains ≡ other → free ≡ less → blocks ≡ more
    → ◌≡◌ {A = Pool} (record { chains = chains; free = free; blocks = blocks }) (record { chains = other; free = less; blocks = more })
same_pool chains other free less blocks more e f g i = record { chains = e i; free = f i; blocks = g i }

module _ (l : LinkState) (r : RegionBytes) (fill : IsFilled l r) (v : Pool) (is : pool_of l r ≡ v) where
  chains_are : with_bytes r.blocks l.chains ≡ v.chains
  chains_are = ap (λ p. p.chains) is

  entries_are : (head : Option ℕ) → filled r.blocks (entries_of l.chains head) ≡ entries_of v.chains head
  entries_are head = sym (entries-with_bytes r.blocks l.chains head) ∙ ap (λ m. entries_of m head) chains_are

  -- a head of the pool is one of the links
  pub chain_is : (head : Option ℕ) → IsChain v.chains head → IsChain l.chains head
  chain_is None c = tt
  chain_is (Some q) c = some_mapped (filled r.blocks) (fin.get l.chains q) (subst (λ o. IsSome o) (ap (λ m. fin.get m q) (sym chains_are) ∙ get-with_bytes r.blocks l.chains q) c)

  pub at_is : (head : Option ℕ) (p : ℕ) → at (entries_of v.chains head) p ≡ option_map (λ b. get_or r.blocks b []) (at (entries_of l.chains head) p)
  at_is head p = ap (λ es. at es p) (sym (entries_are head)) ∙ at_filled r.blocks (entries_of l.chains head) p

  pub absent_is : (head : Option ℕ) (p : ℕ) → at (entries_of v.chains head) p ≡ None → at (entries_of l.chains head) p ≡ None
  absent_is head p none = given (at (entries_of l.chains head) p) (sym (at_is head p) ∙ none)
    where
      given : (o : Option ℕ) → option_map (λ b. get_or r.blocks b []) o ≡ None → o ≡ None
      given None e = refl
      given (Some b) e = absurd (let f : Some (get_or r.blocks b []) ≡ None = e in cc)

  pub there_is : (head : Option ℕ) (p : ℕ) → IsSome (at (entries_of v.chains head) p) → IsSome (at (entries_of l.chains head) p)
  there_is head p some = some_mapped (λ b. get_or r.blocks b []) (at (entries_of l.chains head) p) (subst (λ o. IsSome o) (at_is head p) some)

  pub block_is : (head : Option ℕ) (p b : ℕ) → at (entries_of l.chains head) p ≡ Some b → block_at v.chains head p ≡ get_or r.blocks b []
  block_is head p b e = ap (λ o. unwrap_or o []) (at_is head p ∙ ap (option_map (λ b. get_or r.blocks b [])) e)

  pub some_same : (head : Option ℕ) (p : ℕ) → is_some (at (entries_of v.chains head) p) ≡ is_some (at (entries_of l.chains head) p)
  some_same head p = ap is_some (at_is head p) ∙ given (at (entries_of l.chains head) p)
    where
      given : (o : Option ℕ) → is_some (option_map (λ b. get_or r.blocks b []) o) ≡ is_some o
      given None = refl
      given (Some b) = refl

  -- entries of a chain are found
  entries_found : (valid : IsValid l) (head : Option ℕ) → IsChain l.chains head → (b : ℕ) → Has b (blocks_of (entries_of l.chains head))
      → (q : ℕ) × (es : Entries ℕ) × (fin.get l.chains q ≡ Some es) × Has b (blocks_of es)
  entries_found valid None c b h = absurd h
  entries_found valid (Some q) c b h =
      let x = is_given (fin.get l.chains q) c in
      (q, x.0, x.1, subst (λ o. Has b (blocks_of (unwrap_or o []))) x.1 h)

  below_blocks : (valid : IsValid l) (head : Option ℕ) → IsChain l.chains head → IsBelow head l.blocks
  below_blocks valid None c = tt
  below_blocks valid (Some q) c =
      let x = is_given (fin.get l.chains q) c in
      let lt = valid.within q q x.0 x.1 (valid.headed q x.0 x.1) in
      let le = valid.few in
      omega arith

  pub block_within : (valid : IsValid l) (head : Option ℕ) (p b : ℕ) → IsChain l.chains head → at (entries_of l.chains head) p ≡ Some b → b < length r.blocks
  block_within valid head p b c e =
      let x = entries_found valid head c b (has_at (entries_of l.chains head) p b e) in
      let lt = valid.within x.0 b x.1 x.2 x.3 in
      subst (λ n. b < n) (sym fill.used) lt

  -- ---- a block is put into a chain
  pub record IsPut (claimed linked : LinkState) (ready : RegionBytes) (head : Option ℕ) (block position new : ℕ) : Type 0 where
    pub own : IsChain v.chains head
    pub loose : IsFree claimed block
    pub free : free_of claimed + 1 ≡ free_of l
    pub used : claimed.used ≡ cond (nat_eq block l.used) (l.used + 1) l.used
    pub within : block ≤ l.used
    pub few : claimed.used ≤ claimed.blocks
    pub chains : claimed.chains ≡ l.chains
    pub blocks : claimed.blocks ≡ l.blocks
    pub bytes : ready ≡ record r { blocks = readied 65536 r.blocks block }
    pub links : linked ≡ record claimed { chains = replaced claimed.chains head (Some new) (inserted (entries_of claimed.chains head) position block) }
    pub heads : (new ≡ block) ⊎ (head ≡ Some new)

  module _ (valid : IsValid l) (claimed linked : LinkState) (ready : RegionBytes) (head : Option ℕ) (block position new : ℕ) (put : IsPut claimed linked ready head block position new) where
    own_is : IsChain l.chains head
    own_is = chain_is head put.own

    -- the block is in no chain
    free_block : (q : ℕ) (fs : Entries ℕ) → fin.get l.chains q ≡ Some fs → Has block (blocks_of fs) → ⊥
    free_block q fs e h = put.loose.in_no_chain q fs (ap (λ m. fin.get m q) put.chains ∙ e) h

    new_head : (fin.get l.chains new ≡ None) ⊎ (head ≡ Some new)
    new_head = at_head put.heads
      where
        none : (o : Option (Entries ℕ)) → fin.get l.chains block ≡ o → o ≡ None
        none None e = refl
        none (Some fs) e = absurd (free_block block fs e (valid.headed block fs e))

        at_head : (new ≡ block) ⊎ (head ≡ Some new) → (fin.get l.chains new ≡ None) ⊎ (head ≡ Some new)
        at_head (inl e) = inl (ap (fin.get l.chains) e ∙ none (fin.get l.chains block) refl ∙ refl)
        at_head (inr e) = inr e

    new_below : new < l.blocks
    new_below = at_head put.heads
      where
        at_head : (new ≡ block) ⊎ (head ≡ Some new) → new < l.blocks
        at_head (inl e) = let lt = put.loose.within in let le = put.few in let b = put.blocks in omega arith
        at_head (inr e) = subst (λ h. IsBelow h l.blocks) e (below_blocks valid head own_is)

    linked_chains : linked.chains ≡ replaced l.chains head (Some new) (inserted (entries_of l.chains head) position block)
    linked_chains = ap (λ w. w.chains) put.links ∙ ap (λ m. replaced m head (Some new) (inserted (entries_of m head) position block)) put.chains

    linked_free : free_of linked ≡ free_of claimed
    linked_free = ap free_of put.links

    same_bytes : (q b : ℕ) (fs : Entries ℕ) → fin.get l.chains q ≡ Some fs → Has b (blocks_of fs) → get_or ready.blocks b [] ≡ get_or r.blocks b []
    same_bytes q b fs e h = ap (λ w. get_or w.blocks b []) put.bytes
        ∙ ready_other 65536 block r.blocks fill.sized b (subst (λ n. b < n) (sym fill.used) (valid.within q b fs e h)) (λ p. free_block q fs e (subst (λ n. Has n (blocks_of fs)) p h))

    new_bytes : get_or ready.blocks block [] ≡ zeros 65536
    new_bytes = ap (λ w. get_or w.blocks block []) put.bytes ∙ ready_here 65536 block r.blocks fill.sized (subst (λ n. block ≤ n) (sym fill.used) put.within)

    new_entries : filled ready.blocks (inserted (entries_of l.chains head) position block) ≡ inserted (entries_of v.chains head) position (zeros 65536)
    new_entries = filled-inserted ready.blocks (entries_of l.chains head) position block
        ∙ ap (inserted (filled ready.blocks (entries_of l.chains head)) position) new_bytes
        ∙ ap (λ fs. inserted fs position (zeros 65536))
        (filled_same r.blocks ready.blocks (entries_of l.chains head) (λ b h. let x = entries_found valid head own_is b h in same_bytes x.0 b x.1 x.2 x.3) ∙ entries_are head)

    put_chains : with_bytes ready.blocks linked.chains ≡ replaced v.chains head (Some new) (inserted (entries_of v.chains head) position (zeros 65536))
    put_chains = ap (with_bytes ready.blocks) linked_chains
        ∙ with_bytes-replaced ready.blocks l.chains head (Some new) (inserted (entries_of l.chains head) position block)
        ∙ ap (λ m. replaced m head (Some new) (filled ready.blocks (inserted (entries_of l.chains head) position block))) (with_bytes_same r.blocks ready.blocks l.chains same_bytes ∙ chains_are)
        ∙ ap (replaced v.chains head (Some new)) new_entries

    pub put_shows : (now : Option ℕ) → now ≡ Some new → pool_of linked ready ≡ put_block v head now position
    put_shows now e =
        let less : free_of linked ≡ v.free - 1 = (let f = put.free in let g = linked_free in let h : free_of l ≡ v.free = ap (λ p. p.free) is in omega arith) in
        same_pool _ _ _ _ _ _ put_chains less (ap (λ w. w.blocks) put.links ∙ put.blocks ∙ ap (λ p. p.blocks) is)
        ∙ ap (λ n. put_block v head n position) (sym e)

    pub put_filled : IsFilled linked ready
    put_filled = record {
      used = ap (λ w. length w.blocks) put.bytes ∙ ready_length 65536 block r.blocks fill.sized
          ∙ ap (λ n. cond (nat_eq block n) (n + 1) n) fill.used ∙ sym put.used ∙ ap (λ w. w.used) (sym put.links);
      limit = ap (λ w. w.limit) put.bytes ∙ fill.limit ∙ sym put.blocks ∙ ap (λ w. w.blocks) (sym put.links);
      sized = subst (λ w. AllOf 65536 w.blocks) (sym put.bytes) (ready_sized 65536 block r.blocks fill.sized);
      all =
          let blocks_same : linked.blocks ≡ l.blocks = ap (λ w. w.blocks) put.links ∙ put.blocks in
          let more = total-replaced l.chains head new l.blocks (inserted (entries_of l.chains head) position block) (below_blocks valid head own_is) new_below new_head in
          let len = length-inserted (entries_of l.chains head) position block in
          let sum : total linked.chains linked.blocks ≡ total (replaced l.chains head (Some new) (inserted (entries_of l.chains head) position block)) l.blocks =
          ap (λ m. total m linked.blocks) linked_chains ∙ ap (total (replaced l.chains head (Some new) (inserted (entries_of l.chains head) position block))) blocks_same in
          let f = put.free in let g = linked_free in let a = fill.all in
          omega arith;
    }

    pub put_keeps : (now : Option ℕ) → now ≡ Some new → Keeps v.chains (with_bytes ready.blocks linked.chains) head now
    put_keeps now e = subst (λ n. Keeps v.chains (with_bytes ready.blocks linked.chains) head n) (sym e)
        (subst (λ m. Keeps v.chains m head (Some new)) (sym put_chains) (Keeps-replaced v.chains head new (inserted (entries_of v.chains head) position (zeros 65536)) (shown_head new_head)))
      where
        shown_head : (fin.get l.chains new ≡ None) ⊎ (head ≡ Some new) → (fin.get v.chains new ≡ None) ⊎ (head ≡ Some new)
        shown_head (inl e) = inl (ap (λ m. fin.get m new) (sym chains_are) ∙ get-with_bytes r.blocks l.chains new ∙ ap (option_map (filled r.blocks)) e)
        shown_head (inr e) = inr e

  -- ---- a chain is cut
  pub record IsLess (cut : LinkState) (head position : ℕ) (left : Option ℕ) : Type 0 where
    pub own : IsChain v.chains (Some head)
    pub chains : cut.chains ≡ replaced l.chains (Some head) left (below (entries_of l.chains (Some head)) position)
    pub heads : left ≡ head_of head (below (entries_of l.chains (Some head)) position)
    pub free : free_of cut + length (below (entries_of l.chains (Some head)) position) ≡ free_of l + length (entries_of l.chains (Some head))
    pub used : cut.used ≡ l.used
    pub blocks : cut.blocks ≡ l.blocks

  module _ (valid : IsValid l) (cut : LinkState) (head position : ℕ) (left : Option ℕ) (less : IsLess cut head position left) where
    kept_entries : filled r.blocks (below (entries_of l.chains (Some head)) position) ≡ below (entries_of v.chains (Some head)) position
    kept_entries = filled-below r.blocks (entries_of l.chains (Some head)) position ∙ ap (λ es. below es position) (entries_are (Some head))

    length-kept : length (below (entries_of v.chains (Some head)) position) ≡ length (below (entries_of l.chains (Some head)) position)
    length-kept = ap length (sym kept_entries) ∙ length-filled r.blocks (below (entries_of l.chains (Some head)) position)

    length-all : length (entries_of v.chains (Some head)) ≡ length (entries_of l.chains (Some head))
    length-all = ap length (sym (entries_are (Some head))) ∙ length-filled r.blocks (entries_of l.chains (Some head))

    less_chains : with_bytes r.blocks cut.chains ≡ replaced v.chains (Some head) left (below (entries_of v.chains (Some head)) position)
    less_chains = ap (with_bytes r.blocks) less.chains
        ∙ with_bytes-replaced r.blocks l.chains (Some head) left (below (entries_of l.chains (Some head)) position)
        ∙ ap (λ m. replaced m (Some head) left (filled r.blocks (below (entries_of l.chains (Some head)) position))) chains_are
        ∙ ap (replaced v.chains (Some head) left) kept_entries

    pub less_head : left ≡ cut_head v.chains (Some head) position
    less_head = less.heads ∙ same_head (below (entries_of l.chains (Some head)) position) (below (entries_of v.chains (Some head)) position) kept_entries
      where
        same_head : (es : Entries ℕ) (fs : Entries (List ℕ)) → filled r.blocks es ≡ fs → head_of head es ≡ head_of head fs
        same_head [] [] e = refl
        same_head [] (f ∷ fs) e = absurd (cc)
        same_head (x ∷ es) [] e = absurd (cc)
        same_head (x ∷ es) (f ∷ fs) e = refl

    pub less_shows : (was now : Option ℕ) → was ≡ Some head → now ≡ left → pool_of cut r ≡ cut_chain v was now position
    less_shows was now e f =
        let free_is : free_of cut ≡ (v.free + length (entries_of v.chains (Some head))) - length (below (entries_of v.chains (Some head)) position) =
        (let g = less.free in let h : free_of l ≡ v.free = ap (λ p. p.free) is in let a = length-kept in let b = length-all in omega arith) in
        same_pool _ _ _ _ _ _ less_chains free_is (less.blocks ∙ ap (λ p. p.blocks) is)
        ∙ ap (λ n. cut_chain v (Some head) n position) (sym f) ∙ ap (λ h. cut_chain v h now position) (sym e)

    pub less_filled : IsFilled cut r
    less_filled = record {
      used = fill.used ∙ sym less.used;
      limit = fill.limit ∙ sym less.blocks;
      sized = fill.sized;
      all =
          let sum : total cut.chains cut.blocks ≡ total (replaced l.chains (Some head) left (below (entries_of l.chains (Some head)) position)) l.blocks =
          ap (λ m. total m cut.blocks) less.chains ∙ ap (total (replaced l.chains (Some head) left (below (entries_of l.chains (Some head)) position))) less.blocks in
          let more = total_less left less.heads in
          let b = less.blocks in let f = less.free in let a = fill.all in
          omega arith;
    }
      where
        own_is : IsChain l.chains (Some head)
        own_is = chain_is (Some head) less.own

        none_left : (es : Entries ℕ) → None ≡ head_of head es → length es ≡ 0
        none_left [] e = refl
        none_left (x ∷ es) e = absurd (let f : None ≡ Some head = e in cc)

        total_less : (now : Option ℕ) → now ≡ head_of head (below (entries_of l.chains (Some head)) position)
            → total (replaced l.chains (Some head) now (below (entries_of l.chains (Some head)) position)) l.blocks + length (entries_of l.chains (Some head))
            ≡ total l.chains l.blocks + length (below (entries_of l.chains (Some head)) position)
        total_less None e =
            let gone = total-without l.chains (Some head) l.blocks (below_blocks valid (Some head) own_is) in let z = none_left (below (entries_of l.chains (Some head)) position) e in omega arith
        total_less (Some n) e =
            total-replaced l.chains (Some head) n l.blocks (below (entries_of l.chains (Some head)) position) (below_blocks valid (Some head) own_is)
            (subst (λ h. IsBelow h l.blocks) (sym (own_head n e)) (below_blocks valid (Some head) own_is)) (inr (sym (own_head n e)))
          where
            same_head : (es : Entries ℕ) → Some n ≡ head_of head es → Some n ≡ Some head
            same_head [] e = absurd (let f : Some n ≡ None = e in cc)
            same_head (x ∷ es) e = e

            own_head : (m : ℕ) → Some n ≡ head_of head (below (entries_of l.chains (Some head)) position) → Some n ≡ Some head
            own_head m e = same_head (below (entries_of l.chains (Some head)) position) e

    pub less_keeps : (was now : Option ℕ) → was ≡ Some head → now ≡ left → Keeps v.chains (with_bytes r.blocks cut.chains) was now
    less_keeps was now e f =
        subst (λ h. Keeps v.chains (with_bytes r.blocks cut.chains) h now) (sym e)
        (subst (λ n. Keeps v.chains (with_bytes r.blocks cut.chains) (Some head) n) (sym f)
        (subst (λ m. Keeps v.chains m (Some head) left) (sym less_chains) (at_left left less.heads)))
      where
        es : Entries (List ℕ)
        es = below (entries_of v.chains (Some head)) position

        same_head : (n : ℕ) (es : Entries ℕ) → Some n ≡ head_of head es → Some head ≡ Some n
        same_head n [] e = absurd (let f : Some n ≡ None = e in cc)
        same_head n (x ∷ es) e = sym e

        at_left : (now : Option ℕ) → now ≡ head_of head (below (entries_of l.chains (Some head)) position)
            → Keeps v.chains (replaced v.chains (Some head) now (below (entries_of v.chains (Some head)) position)) (Some head) now
        at_left None e = Keeps-without v.chains (Some head)
        at_left (Some n) e = Keeps-replaced v.chains (Some head) n (below (entries_of v.chains (Some head)) position) (inr (same_head n (below (entries_of l.chains (Some head)) position) e))

  -- ---- bytes are written into a block
  module _ (valid : IsValid l) (written : RegionBytes) (head : ℕ) (block position first : ℕ) (bytes : List ℕ) (own : IsChain v.chains (Some head))
      (there : at (entries_of l.chains (Some head)) position ≡ Some block) (fits : first + length bytes ≤ 65536)
      (is_written : written ≡ record r { blocks = set r.blocks block (overwritten (get_or r.blocks block []) first bytes) }) where
    abbrev other : List ℕ
    other = overwritten (get_or r.blocks block []) first bytes

    within : block < length r.blocks
    within = block_within valid (Some head) position block (chain_is (Some head) own) there

    found_own : (es : Entries ℕ) × (fin.get l.chains head ≡ Some es)
    found_own = is_given (fin.get l.chains head) (chain_is (Some head) own)

    written_entries : filled written.blocks (entries_of l.chains (Some head)) ≡ set_value (nat_eq position) (entries_of v.chains (Some head)) other
    written_entries = ap (λ w. filled w.blocks (entries_of l.chains (Some head))) is_written
        ∙ filled-set r.blocks (entries_of l.chains (Some head)) position block other within
        (subst (λ o. Once (blocks_of (unwrap_or o []))) (sym found_own.1) (valid.once head found_own.0 found_own.1)) there
        ∙ ap (λ es. set_value (nat_eq position) es other) (entries_are (Some head))

    elsewhere : (q : ℕ) → q ≢ head → option_map (filled written.blocks) (fin.get l.chains q) ≡ option_map (filled r.blocks) (fin.get l.chains q)
    elsewhere q n = given (fin.get l.chains q) refl
      where
        has_own : Has block (blocks_of found_own.0)
        has_own = has_at found_own.0 position block (subst (λ o. at (unwrap_or o []) position ≡ Some block) found_own.1 there)

        given : (o : Option (Entries ℕ)) → fin.get l.chains q ≡ o → option_map (filled written.blocks) o ≡ option_map (filled r.blocks) o
        given None e = refl
        given (Some es) e =
            ap Some (filled_same r.blocks written.blocks es
            (λ b h. ap (λ w. get_or w.blocks b []) is_written
            ∙ get_or-set_other r.blocks block b other [] (λ p. n (valid.apart q head block es found_own.0 e found_own.1 (subst (λ c. Has c (blocks_of es)) p h) has_own))))

    written_chains : with_bytes written.blocks l.chains ≡ replaced v.chains (Some head) (Some head) (set_value (nat_eq position) (entries_of v.chains (Some head)) other)
    written_chains = same_numbers _ _ (λ q. get-with_bytes written.blocks l.chains q ∙ from_either
        (λ e. ap (λ q. option_map (filled written.blocks) (fin.get l.chains q)) e
        ∙ ap (option_map (filled written.blocks)) found_own.1 ∙ ap (λ o. Some (filled written.blocks (unwrap_or o []))) (sym found_own.1) ∙ ap Some written_entries
        ∙ sym (ap (fin.get (replaced v.chains (Some head) (Some head) (set_value (nat_eq position) (entries_of v.chains (Some head)) other))) e
        ∙ put_same (fin.remove v.chains head) head (set_value (nat_eq position) (entries_of v.chains (Some head)) other)))
        (λ n. elsewhere q n ∙ sym (get-with_bytes r.blocks l.chains q) ∙ ap (λ m. fin.get m q) chains_are
        ∙ sym (put_other (fin.remove v.chains head) head (set_value (nat_eq position) (entries_of v.chains (Some head)) other) q n ∙ taken_other v.chains head q n))
        (cases_eq q head))

    pub written_shows : (was : Option ℕ) → was ≡ Some head → pool_of l written ≡ write_block v was position first bytes
    written_shows was e =
        same_pool _ _ _ _ _ _ written_chains (ap (λ p. p.free) is) (ap (λ p. p.blocks) is)
        ∙ ap (λ b. record v { chains = replaced v.chains (Some head) (Some head) (set_value (nat_eq position) (entries_of v.chains (Some head)) (overwritten b first bytes)) })
        (sym (block_is (Some head) position block there))
        ∙ ap (λ h. write_block v h position first bytes) (sym e)

    pub written_filled : IsFilled l written
    written_filled = record {
      used = ap (λ w. length w.blocks) is_written ∙ length-set r.blocks block other ∙ fill.used;
      limit = ap (λ w. w.limit) is_written ∙ fill.limit;
      sized = subst (λ w. AllOf 65536 w.blocks) (sym is_written) (sized-set 65536 block r.blocks other fill.sized
          (length-overwritten (get_or r.blocks block []) first bytes (subst (λ n. first + length bytes ≤ n) (sym (sized_at 65536 block r.blocks fill.sized within)) fits)
          ∙ sized_at 65536 block r.blocks fill.sized within));
      all = fill.all;
    }

    pub written_keeps : (was : Option ℕ) → was ≡ Some head → Keeps v.chains (with_bytes written.blocks l.chains) was was
    written_keeps was e = subst (λ h. Keeps v.chains (with_bytes written.blocks l.chains) h h) (sym e)
        (subst (λ m. Keeps v.chains m (Some head) (Some head)) (sym written_chains)
        (Keeps-replaced v.chains (Some head) head (set_value (nat_eq position) (entries_of v.chains (Some head)) other) (inr refl)))

  -- ---- what holds of every pool
  pub IsPool-filled : IsValid l → IsPool v
  IsPool-filled valid = subst IsPool is (record {
    rising = λ q fs e. let x = shown q fs e in subst Rises x.2 (rises_filled x.0 (valid.rising q x.0 x.1));
    sized = λ q fs e. let x = shown q fs e in subst AllSized x.2 (all_sized x.0 (λ b h. subst (λ n. b < n) (sym fill.used) (valid.within q b x.0 x.1 h)));
    some = λ q fs e n. let x = shown q fs e in no_blocks x.0 q (valid.headed q x.0 x.1) (x.2 ∙ n);
    heads = λ q s. below_blocks valid (Some q) (some_mapped (filled r.blocks) (fin.get l.chains q) (subst (λ o. IsSome o) (get-with_bytes r.blocks l.chains q) s));
    all = ap (λ n. free_of l + n) (total_filled l.blocks) ∙ fill.all;
  })
    where
      shown : (q : ℕ) (fs : Entries (List ℕ)) → fin.get (with_bytes r.blocks l.chains) q ≡ Some fs → (es : Entries ℕ) × (fin.get l.chains q ≡ Some es) × (filled r.blocks es ≡ fs)
      shown q fs e = given (fin.get l.chains q) refl (sym (get-with_bytes r.blocks l.chains q) ∙ e)
        where
          same : (es : Entries ℕ) → Some (filled r.blocks es) ≡ Some fs → filled r.blocks es ≡ fs
          same es e = cc

          given : (o : Option (Entries ℕ)) → fin.get l.chains q ≡ o → option_map (filled r.blocks) o ≡ Some fs → (es : Entries ℕ) × (fin.get l.chains q ≡ Some es) × (filled r.blocks es ≡ fs)
          given None f e = absurd (let g : None ≡ Some fs = e in cc)
          given (Some es) f e = (es, f, same es e)

      no_blocks : (es : Entries ℕ) (q : ℕ) → Has q (blocks_of es) → filled r.blocks es ≡ [] → ⊥
      no_blocks [] q h e = h
      no_blocks (x ∷ es) q h e = cc

      above_filled : (p : ℕ) (es : Entries ℕ) → AllAbove p es → AllAbove p (filled r.blocks es)
      above_filled p [] a = tt
      above_filled p (e ∷ es) a = (a.0, above_filled p es a.1)

      rises_filled : (es : Entries ℕ) → Rises es → Rises (filled r.blocks es)
      rises_filled [] s = tt
      rises_filled (e ∷ es) s = (above_filled e.0 es s.0, rises_filled es s.1)

      all_sized : (es : Entries ℕ) → ((b : ℕ) → Has b (blocks_of es) → b < length r.blocks) → AllSized (filled r.blocks es)
      all_sized [] w = tt
      all_sized (e ∷ es) w = (sized_at 65536 e.1 r.blocks fill.sized (w e.1 (inl refl)), all_sized es (λ b h. w b (inr h)))

      total_filled : (n : ℕ) → total (with_bytes r.blocks l.chains) n ≡ total l.chains n
      total_filled zero = refl
      total_filled (suc n) = ap (λ t. t + length (entries_of (with_bytes r.blocks l.chains) (Some n))) (total_filled n)
          ∙ ap (λ k. total l.chains n + k) (ap length (entries-with_bytes r.blocks l.chains (Some n)) ∙ length-filled r.blocks (entries_of l.chains (Some n)))

-- ---- a new pool
no_chains : (m : ChainMap ℕ) → m ≡ fin.empty → (q : ℕ) → fin.get m q ≡ None
no_chains m e q = ap (λ n. fin.get n q) e ∙ fin.get-empty nat_cmp q

pub new_filled : (blocks : ℕ) (l : LinkState) (r : RegionBytes) → l ≡ record { chains = fin.empty; used = 0; freed = []; blocks = blocks } → r ≡ record { blocks = []; limit = blocks } → IsFilled l r
new_filled blocks l r e f =
    subst (λ k. IsFilled k r) (sym e) (subst (IsFilled (record { chains = fin.empty; used = 0; freed = []; blocks = blocks })) (sym f) (record {
      used = refl;
      limit = refl;
      sized = tt;
      all = let none = total-empty {V = ℕ} fin.empty blocks (λ q. fin.get-empty nat_cmp q) in omega arith;
    }))

pub new_shows : (blocks : ℕ) (l : LinkState) (r : RegionBytes) → l ≡ record { chains = fin.empty; used = 0; freed = []; blocks = blocks } → r ≡ record { blocks = []; limit = blocks }
    → pool_of l r ≡ record { chains = fin.empty; free = blocks; blocks = blocks }
new_shows blocks l r e f =
    same_pool (with_bytes r.blocks l.chains) fin.empty (free_of l) blocks l.blocks blocks
    (same_numbers _ _ (λ q. get-with_bytes r.blocks l.chains q ∙ ap (option_map (filled r.blocks)) (no_chains l.chains (ap (λ w. w.chains) e) q) ∙ sym (fin.get-empty nat_cmp q)))
    (ap free_of e ∙ (let s : 0 + (blocks - 0) ≡ blocks = omega arith in s)) (ap (λ w. w.blocks) e)

-- ---- a chain that is given back
none_below : {V : Type 0} (es : Entries V) → below es 0 ≡ []
none_below [] = refl
none_below (e ∷ es) = ap (λ t. cond t (e ∷ below es 0) (below es 0)) (le-ltb e.0 0 (omega arith)) ∙ none_below es

no_head : (chains : ChainMap (List ℕ)) (head : Option ℕ) → cut_head chains head 0 ≡ None
no_head chains None = refl
no_head chains (Some q) = ap (head_of q) (none_below (entries_of chains (Some q)))

pub given_back : (v : Pool) (head now : Option ℕ) → now ≡ cut_head v.chains head 0 → cut_chain v head now 0 ≡ give_chain v head
given_back v head now e =
    ap (λ n. cut_chain v head n 0) (e ∙ no_head v.chains head)
    ∙ same_pool (without v.chains head) (without v.chains head) ((v.free + length (entries_of v.chains head)) - length (below (entries_of v.chains head) 0))
    (v.free + length (entries_of v.chains head)) v.blocks v.blocks
    refl (ap (λ es. (v.free + length (entries_of v.chains head)) - length es) (none_below (entries_of v.chains head))
    ∙ (let s : (v.free + length (entries_of v.chains head)) - 0 ≡ v.free + length (entries_of v.chains head) = omega arith in s)) refl
