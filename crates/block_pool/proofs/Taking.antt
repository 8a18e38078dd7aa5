-- A chain that is taken block by block.
use Rattle.std.proofs.Common.{◌≡◌, ◌≢◌, ℕ, zero, suc, ◌+◌, ◌-◌, ◌<◌, ◌≤◌, true, List, [], ◌∷◌, ◌++◌, Option, None, Some, IsSome, is_some, refl, sym, ap, subst, ◌∙◌, nat_lt, arith}
use Rattle.std.proofs.lemmas.Bool.{cases_eq, false≢true, lt-ltb}
use Rattle.std.proofs.lemmas.List.{append-nil}
use Rattle.std.specs.FinMap as fin
use Rattle.std.specs.Option.{unwrap_or}
use Rattle.staging_spec.specs.Content.{zeros}
use Rattle.block_pool.specs.Chains.{Entries, ChainMap, entries_of, without, with_chain, replaced, at, inserted}
use Rattle.block_pool.specs.Pool.{Pool, Keeps, put_block, take_chain, zero_blocks}
use Rattle.block_pool.proofs.Lists.{from_either, AllBelow, inserted_between}
use Rattle.block_pool.proofs.Maps.{put_same, put_other, taken_same, taken_other, same_numbers}
use Rattle.block_pool.proofs.Searching.{none_below}
use Rattle.block_pool.proofs.Totals.{Keeps-then}

-- ---- blocks of zeros
zeros_below : (from count : ℕ) (p : ℕ) → from + count ≤ p → AllBelow p (zero_blocks from count)
zeros_below from zero p le = tt
zeros_below from (suc count) p le = (omega arith, zeros_below (from + 1) count p (omega arith))

zeros_more : (from count : ℕ) → zero_blocks from count ++ (from + count, zeros 65536) ∷ [] ≡ zero_blocks from (suc count)
zeros_more from zero = ap (λ n. (n, zeros 65536) ∷ []) (let e : from + 0 ≡ from = omega arith in e)
zeros_more from (suc count) = ap (λ es. (from, zeros 65536) ∷ es)
    (ap (λ n. zero_blocks (from + 1) count ++ (n, zeros 65536) ∷ []) (let e : from + suc count ≡ (from + 1) + count = omega arith in e) ∙ zeros_more (from + 1) count)

one_more : (count : ℕ) → inserted (zero_blocks 0 count) count (zeros 65536) ≡ zero_blocks 0 (count + 1)
one_more count =
    ap (λ es. inserted es count (zeros 65536)) (sym (append-nil (zero_blocks 0 count)))
    ∙ inserted_between (zero_blocks 0 count) [] count (zeros 65536) (zeros_below 0 count count (omega arith)) tt
    ∙ ap (λ n. zero_blocks 0 count ++ (n, zeros 65536) ∷ []) (let e : count ≡ 0 + count = omega arith in e)
    ∙ zeros_more 0 count ∙ ap (zero_blocks 0) (let e : suc count ≡ count + 1 = omega arith in e)

-- ---- so many blocks of a chain were taken
pub record IsTaken (was now : Pool) (chain : Option ℕ) (count : ℕ) : Type 0 where
  pub pool : now ≡ take_chain was chain count
  pub entries : entries_of now.chains chain ≡ zero_blocks 0 count
  pub kept : Keeps was.chains now.chains None chain
  pub some : is_some chain ≡ nat_lt 0 count

pub IsTaken-none : (was : Pool) → IsTaken was was None 0
IsTaken-none was = record {
  pool = ap (λ n. record was { free = n }) (let e : was.free ≡ was.free - 0 = omega arith in e);
  entries = refl;
  kept = record { others = λ q s d. refl; apart = λ q s d. d; chain = tt };
  some = refl;
}

pub taken_absent : (was now : Pool) (chain : Option ℕ) (count : ℕ) → IsTaken was now chain count → at (entries_of now.chains chain) count ≡ None
taken_absent was now chain count t = ap (λ es. at es count) t.entries ∙ none_below count (zero_blocks 0 count) (zeros_below 0 count count (omega arith))

-- a chain that no other one has the head of is taken away again
back : (m : ChainMap (List ℕ)) (chain : Option ℕ) (es : Entries (List ℕ)) → ((other : ℕ) → IsSome (fin.get m other) → Some other ≢ chain) → without (with_chain m chain es) chain ≡ m
back m None es apart = refl
back m (Some k) es apart = same_numbers _ _ (λ q. from_either
    (λ e. ap (fin.get (fin.remove (fin.insert m k es) k)) e ∙ taken_same (fin.insert m k es) k ∙ sym (ap (fin.get m) e ∙ none (fin.get m k) refl))
    (λ n. taken_other (fin.insert m k es) k q n ∙ put_other m k es q n)
    (cases_eq q k))
  where
    none : (o : Option (Entries (List ℕ))) → fin.get m k ≡ o → o ≡ None
    none None e = refl
    none (Some fs) e = absurd (apart k (ap is_some e) refl)

-- a chain that was put has its entries
pub put_entries : (m : ChainMap (List ℕ)) (chain : Option ℕ) (es : Entries (List ℕ)) → IsSome chain → entries_of (with_chain m chain es) chain ≡ es
put_entries m None es s = absurd (false≢true s)
put_entries m (Some k) es s = ap (λ o. unwrap_or o []) (put_same m k es)

pub IsTaken-more : (was now next : Pool) (chain new : Option ℕ) (count : ℕ) → IsTaken was now chain count → next ≡ put_block now chain new count → IsSome new → Keeps now.chains next.chains chain new
    → IsTaken was next new (count + 1)
IsTaken-more was now next chain new count t put some kept = record {
  pool = put ∙ ap (λ m. record { chains = m; free = now.free - 1; blocks = now.blocks }) chains_are ∙ rest;
  entries =
      ap (λ p. entries_of p.chains new) (put ∙ ap (λ m. record { chains = m; free = now.free - 1; blocks = now.blocks }) chains_are) ∙ put_entries was.chains new (zero_blocks 0 (count + 1)) some;
  kept = Keeps-then was.chains now.chains next.chains None chain new t.kept kept;
  some = some ∙ sym (lt-ltb 0 (count + 1) (omega arith));
}
  where
    chains_are : replaced now.chains chain new (inserted (entries_of now.chains chain) count (zeros 65536)) ≡ with_chain was.chains new (zero_blocks 0 (count + 1))
    chains_are = ap (λ es. replaced now.chains chain new (inserted es count (zeros 65536))) t.entries
        ∙ ap (replaced now.chains chain new) (one_more count)
        ∙ ap (λ p. replaced p.chains chain new (zero_blocks 0 (count + 1))) t.pool
        ∙ ap (λ m. with_chain m new (zero_blocks 0 (count + 1))) (back was.chains chain (zero_blocks 0 count) (λ q s. t.kept.apart q s (λ e. let f : Some q ≡ None = e in cc)))

    rest : record { chains = with_chain was.chains new (zero_blocks 0 (count + 1)); free = now.free - 1; blocks = now.blocks } ≡ take_chain was new (count + 1)
    rest = ap (λ p. record { chains = with_chain was.chains new (zero_blocks 0 (count + 1)); free = p.free - 1; blocks = p.blocks }) t.pool
        ∙ ap (λ n. record { chains = with_chain was.chains new (zero_blocks 0 (count + 1)); free = n; blocks = was.blocks })
        (let e : (was.free - count) - 1 ≡ was.free - (count + 1) = omega arith in e)

pub taken_free : (was now : Pool) (chain : Option ℕ) (count all : ℕ) → IsTaken was now chain count → all ≤ was.free → count < all → nat_lt 0 now.free ≡ true
taken_free was now chain count all t le lt = ap (λ p. nat_lt 0 p.free) t.pool ∙ lt-ltb 0 (was.free - count) (omega arith)
