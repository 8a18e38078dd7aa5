-- What contracts see of a pool of blocks, and what each call makes of it.
use Rattle.std.specs.Prelude.{◌≡◌, ◌≢◌, ℕ, zero, suc, ◌+◌, ◌-◌, ◌<◌, List, [], ◌∷◌, Option, None, Some, IsSome, map, length, nat_eq, refl, slice_index_or}
use Rattle.std.specs.Coded.{Coded, code_by, coded×, coded_ℕ, coded_list}
use Rattle.std.specs.FinMap as fin
use Rattle.std.specs.Map.{set_value}
use Rattle.std.specs.Option.{unwrap_or}
use Rattle.staging_spec.specs.Content.{zeros}
use Rattle.block_pool.specs.Blocks.{RegionBytes, overwritten}
use Rattle.block_pool.specs.Chains.{Entries, ChainMap, Rises, entries_of, without, with_chain, replaced, at, inserted, below, head_of, IsChain}
use Rattle.block_pool.specs.Links.{LinkState, free_of}

-- the chains that are not empty, by their heads, each with the bytes of its blocks at rising positions; how many blocks
-- are free, and how many there are
pub record Pool : Type 0 where
  pub chains : ChainMap (List ℕ)
  pub free : ℕ
  pub blocks : ℕ

abbrev pub pool_code : Coded Pool
pool_code =
    code_by
    (ChainMap (List ℕ) × (ℕ × ℕ))
    (coded× (fin.code coded_ℕ (coded_list (coded× coded_ℕ (coded_list coded_ℕ)))) (coded× coded_ℕ coded_ℕ))
    (λ p. (p.chains, (p.free, p.blocks)))
    (λ p. record { chains = p.0; free = p.1.0; blocks = p.1.1 })
    (λ _. refl)

-- ---- what calls make of it
-- a chain gets a block of zeros at a position, and another head or the same
abbrev pub put_block : Pool → Option ℕ → Option ℕ → ℕ → Pool
put_block pool head new position = record pool {
  chains = replaced pool.chains head new (inserted (entries_of pool.chains head) position (zeros 65536));
  free = pool.free - 1;
}

-- a chain keeps its blocks below a position
abbrev pub cut_chain : Pool → Option ℕ → Option ℕ → ℕ → Pool
cut_chain pool head new position = record pool {
  chains = replaced pool.chains head new (below (entries_of pool.chains head) position);
  free = (pool.free + length (entries_of pool.chains head)) - length (below (entries_of pool.chains head) position);
}

-- the head of a chain that keeps its blocks below a position
abbrev pub cut_head : ChainMap (List ℕ) → Option ℕ → ℕ → Option ℕ
cut_head chains None position = None
cut_head chains (Some head) position = head_of head (below (entries_of chains (Some head)) position)

-- the bytes at a position
abbrev pub block_at : ChainMap (List ℕ) → Option ℕ → ℕ → List ℕ
block_at chains head position = unwrap_or (at (entries_of chains head) position) []

-- bytes are written into the block at a position, from a place on
abbrev pub write_block : Pool → Option ℕ → ℕ → ℕ → List ℕ → Pool
write_block pool head position first bytes = record pool {
  chains = replaced pool.chains head head (set_value (nat_eq position) (entries_of pool.chains head) (overwritten (block_at pool.chains head position) first bytes));
}

-- so many blocks of zeros, from a position on
abbrev pub zero_blocks : ℕ → ℕ → Entries (List ℕ)
zero_blocks position zero = []
zero_blocks position (suc count) = (position, zeros 65536) ∷ zero_blocks (position + 1) count

-- a new chain of so many blocks of zeros
abbrev pub take_chain : Pool → Option ℕ → ℕ → Pool
take_chain pool new count = record pool { chains = with_chain pool.chains new (zero_blocks 0 count); free = pool.free - count }

-- a chain's blocks are free
abbrev pub give_chain : Pool → Option ℕ → Pool
give_chain pool head = record pool { chains = without pool.chains head; free = pool.free + length (entries_of pool.chains head) }

-- ---- what holds
-- Every chain but the one with this head is there as it was, and is not the one with the new head, which is there.
pub record Keeps (was now : ChainMap (List ℕ)) (head new : Option ℕ) : Type 0 where
  pub others : (other : ℕ) → IsSome (fin.get was other) → Some other ≢ head → fin.get now other ≡ fin.get was other
  pub apart : (other : ℕ) → IsSome (fin.get was other) → Some other ≢ head → Some other ≢ new
  pub chain : IsChain now new

abbrev pub AllSized : Entries (List ℕ) → Type 0
AllSized [] = Unit {0}
AllSized (e ∷ es) = (length e.1 ≡ 65536) × AllSized es

-- the blocks of the chains whose heads are below a number
abbrev pub total : {V : Type 0} → ChainMap V → ℕ → ℕ
total chains zero = 0
total chains (suc head) = total chains head + length (entries_of chains (Some head))

-- A chain that is there has blocks, at rising positions, each of 65,536 bytes; free blocks and those of all chains are all there are
pub record IsPool (pool : Pool) : Type 0 where
  pub rising : (head : ℕ) (entries : Entries (List ℕ)) → fin.get pool.chains head ≡ Some entries → Rises entries
  pub sized : (head : ℕ) (entries : Entries (List ℕ)) → fin.get pool.chains head ≡ Some entries → AllSized entries
  pub some : (head : ℕ) (entries : Entries (List ℕ)) → fin.get pool.chains head ≡ Some entries → entries ≢ []
  pub heads : (head : ℕ) → IsSome (fin.get pool.chains head) → head < pool.blocks
  pub all : pool.free + total pool.chains pool.blocks ≡ pool.blocks

-- ---- what links and bytes make of it
-- the bytes of the blocks at their positions
abbrev pub filled : List (List ℕ) → Entries ℕ → Entries (List ℕ)
filled blocks entries = map (λ e. (e.0, slice_index_or blocks e.1 [])) entries

abbrev pub with_bytes : List (List ℕ) → ChainMap ℕ → ChainMap (List ℕ)
with_bytes blocks chains = fin.from_entries (map (λ e. (e.0, filled blocks e.1)) (fin.entries chains))

abbrev pub pool_of : LinkState → RegionBytes → Pool
pool_of links region = record { chains = with_bytes region.blocks links.chains; free = free_of links; blocks = links.blocks }

abbrev pub AllOf : ℕ → List (List ℕ) → Type 0
AllOf size [] = Unit {0}
AllOf size (b ∷ bs) = (length b ≡ size) × AllOf size bs

-- each block that was used has its bytes, and there is room for the others
pub record IsFilled (links : LinkState) (region : RegionBytes) : Type 0 where
  pub used : length region.blocks ≡ links.used
  pub limit : region.limit ≡ links.blocks
  pub sized : AllOf 65536 region.blocks
  pub all : free_of links + total links.chains links.blocks ≡ links.blocks
