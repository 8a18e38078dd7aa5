-- What the region sees of its links: the chains by the blocks that they have, and the blocks that are free.
use Rattle.std.specs.Prelude.{◌≡◌, ℕ, ◌+◌, ◌-◌, ◌<◌, ◌≤◌, List, Some, length, map, refl}
use Rattle.std.specs.Coded.{Coded, code_by, coded×, coded_ℕ, coded_list}
use Rattle.std.specs.FinMap as fin
use Rattle.block_pool.specs.Chains.{Entries, ChainMap, Rises}
use Rattle.block_pool.specs.Nodes.{Has, Once, IsLinked, all_chains, walk}
use Rattle.block_pool.specs.declared.node.Node.{Node}

-- the chains, how many blocks were ever used, those of them that were freed, the next to be used first, and how many
-- blocks there are
pub record LinkState : Type 0 where
  pub chains : ChainMap ℕ
  pub used : ℕ
  pub freed : List ℕ
  pub blocks : ℕ

abbrev pub links_code : Coded LinkState
links_code =
    code_by
    (ChainMap ℕ × (ℕ × (List ℕ × ℕ)))
    (coded× (fin.code coded_ℕ (coded_list (coded× coded_ℕ coded_ℕ))) (coded× coded_ℕ (coded× (coded_list coded_ℕ) coded_ℕ)))
    (λ l. (l.chains, (l.used, (l.freed, l.blocks))))
    (λ p. record { chains = p.0; used = p.1.0; freed = p.1.1.0; blocks = p.1.1.1 })
    (λ _. refl)

-- what nodes and freed blocks make of it
abbrev pub link_state : List Node → ℕ → ℕ → ℕ → LinkState
link_state nodes first freed blocks = record { chains = all_chains nodes; used = length nodes; freed = walk nodes freed first; blocks = blocks }

-- how many blocks are free
abbrev pub free_of : LinkState → ℕ
free_of links = length links.freed + (links.blocks - links.used)

abbrev pub blocks_of : Entries ℕ → List ℕ
blocks_of entries = map (λ e. e.1) entries

-- a block that was used is in no chain and not freed
pub record IsFree (links : LinkState) (block : ℕ) : Type 0 where
  pub within : block < links.used
  pub in_no_chain : (head : ℕ) (entries : Entries ℕ) → fin.get links.chains head ≡ Some entries → Has block (blocks_of entries) → ⊥
  pub not_freed : Has block links.freed → ⊥

-- no block is in two places; positions rise
pub record IsValid (links : LinkState) : Type 0 where
  pub within : (head block : ℕ) (entries : Entries ℕ) → fin.get links.chains head ≡ Some entries → Has block (blocks_of entries) → block < links.used
  pub apart : (head other block : ℕ) (entries others : Entries ℕ) → fin.get links.chains head ≡ Some entries → fin.get links.chains other ≡ Some others
      → Has block (blocks_of entries) → Has block (blocks_of others) → head ≡ other
  pub once : (head : ℕ) (entries : Entries ℕ) → fin.get links.chains head ≡ Some entries → Once (blocks_of entries)
  pub rising : (head : ℕ) (entries : Entries ℕ) → fin.get links.chains head ≡ Some entries → Rises entries
  -- a chain has its head
  pub headed : (head : ℕ) (entries : Entries ℕ) → fin.get links.chains head ≡ Some entries → Has head (blocks_of entries)
  pub few : links.used ≤ links.blocks

-- the nodes are linked, and there is room for one for each block
pub record IsHeld (nodes : List Node) (first freed blocks capacity : ℕ) : Type 0 where
  pub linked : IsLinked nodes first freed
  pub few : length nodes ≤ blocks
  pub room : blocks ≤ capacity
