-- How chains are linked: each block has a node with its position and the next block of its chain; the node of a chain's
-- first block has also the number of its blocks and the last one.
use Rattle.std.specs.Prelude.{◌≡◌, ℕ, zero, suc, ◌+◌, ◌-◌, ◌<◌, ◌≤◌, ◌==◌, List, [], ◌∷◌, ◌++◌, ◌⊎◌, map, length, slice_index_or, slice_set, if◌then◌else◌}
use Rattle.std.specs.FinMap as fin
use Rattle.block_pool.specs.Chains.{Entries, ChainMap, Rises}
use Rattle.block_pool.specs.declared.node.Node.{Node}

abbrev pub no_node : Node
no_node = record { position = 0; next = 0; last = 0; count = 0 }

abbrev pub node_at : List Node → ℕ → Node
node_at nodes block = slice_index_or nodes block no_node

-- so many blocks from this one on, each the next of the one before
abbrev pub walk : List Node → ℕ → ℕ → List ℕ
walk nodes zero block = []
walk nodes (suc count) block = block ∷ walk nodes count (node_at nodes block).next

-- the block so many steps behind this one
abbrev pub step : List Node → ℕ → ℕ → ℕ
step nodes zero block = block
step nodes (suc count) block = step nodes count (node_at nodes block).next

-- the blocks of the chain that begins at this block, none where none does
abbrev pub blocks_at : List Node → ℕ → List ℕ
blocks_at nodes head = walk nodes (node_at nodes head).count head

-- blocks by their positions
abbrev pub placed : List Node → List ℕ → Entries ℕ
placed nodes blocks = map (λ block. ((node_at nodes block).position, block)) blocks

abbrev pub chain_at : List Node → ℕ → Entries ℕ
chain_at nodes head = placed nodes (blocks_at nodes head)

-- the map with a chain that is not empty
abbrev pub with_nonempty : ChainMap ℕ → ℕ → Entries ℕ → ChainMap ℕ
with_nonempty chains head [] = chains
with_nonempty chains head (e ∷ es) = fin.insert chains head (e ∷ es)

-- the chains that begin at one of the first so many blocks
abbrev pub chains_below : List Node → ℕ → ChainMap ℕ
chains_below nodes zero = fin.empty
chains_below nodes (suc count) = with_nonempty (chains_below nodes count) count (chain_at nodes count)

abbrev pub all_chains : List Node → ChainMap ℕ
all_chains nodes = chains_below nodes (length nodes)

-- a block is one of these
abbrev pub Has : ℕ → List ℕ → Type 0
Has block [] = ⊥
Has block (b ∷ bs) = (block ≡ b) ⊎ Has block bs

-- no block stands twice
abbrev pub Once : List ℕ → Type 0
Once [] = Unit {0}
Once (b ∷ bs) = (¬ (Has b bs)) × Once bs

-- What holds of the nodes, and of the freed blocks, which are linked too: so many from the first one on.
pub record IsLinked (nodes : List Node) (first freed : ℕ) : Type 0 where
  -- blocks of chains and freed blocks have nodes
  pub within : (head block : ℕ) → Has block (blocks_at nodes head) → block < length nodes
  pub freed_within : (block : ℕ) → Has block (walk nodes freed first) → block < length nodes
  -- no block is in two chains, or both in a chain and freed, or freed twice
  pub apart : (head other block : ℕ) → Has block (blocks_at nodes head) → Has block (blocks_at nodes other) → head ≡ other
  pub not_freed : (head block : ℕ) → Has block (walk nodes freed first) → Has block (blocks_at nodes head) → ⊥
  pub freed_once : Once (walk nodes freed first)
  -- positions rise, and the last block is known
  pub rising : (head : ℕ) → Rises (chain_at nodes head)
  pub last : (head block : ℕ) (blocks : List ℕ) → blocks_at nodes head ≡ blocks ++ block ∷ [] → (node_at nodes head).last ≡ block

-- a block with a node that is in no chain and not freed
pub record IsLoose (nodes : List Node) (first freed block : ℕ) : Type 0 where
  pub within : block < length nodes
  pub in_no_chain : (head : ℕ) → Has block (blocks_at nodes head) → ⊥
  pub not_freed : Has block (walk nodes freed first) → ⊥

-- ---- changes of the links
-- another node for a block
abbrev pub with_node : List Node → ℕ → Node → List Node
with_node nodes block node = slice_set nodes block node

-- a block begins a chain of its own
abbrev pub begun : List Node → ℕ → ℕ → List Node
begun nodes block position = slice_set nodes block (record { position = position; next = block; last = block; count = 1 })

-- a block goes before the first one of a chain
abbrev pub put_before : List Node → ℕ → ℕ → ℕ → List Node
put_before nodes head block position =
    let first = node_at nodes head in
    slice_set (slice_set nodes block (record { position = position; next = head; last = first.last; count = first.count + 1 })) head (record first { count = 0 })

-- a block gets its position, and the block that comes next
abbrev pub pointed : List Node → ℕ → ℕ → ℕ → List Node
pointed nodes block position next = slice_set nodes block (record (node_at nodes block) { position = position; next = next })

-- another block comes next
abbrev pub joined : List Node → ℕ → ℕ → List Node
joined nodes block next = slice_set nodes block (record (node_at nodes block) { next = next })

-- a chain has so many blocks, up to this one
abbrev pub bounded : List Node → ℕ → ℕ → ℕ → List Node
bounded nodes head count last = slice_set nodes head (record (node_at nodes head) { count = count; last = last })

-- a block goes behind another one of a chain, the last one or not
abbrev pub put_behind : List Node → ℕ → ℕ → ℕ → ℕ → List Node
put_behind nodes head place block position =
    let first = node_at nodes head in
    bounded (joined (pointed nodes block position (node_at nodes place).next) place block) head (first.count + 1) (if place == first.last then block else first.last)

-- the chain keeps so many blocks, up to this one; its last block comes before the freed ones
abbrev pub cut_behind : List Node → ℕ → ℕ → ℕ → ℕ → List Node
cut_behind nodes head place count first_freed = bounded (joined nodes (node_at nodes head).last first_freed) head count place

-- The place of a position in a chain: so many of its blocks are below the position, the last of them at the place.
pub record IsPlace (nodes : List Node) (head position block kept : ℕ) : Type 0 where
  pub some : 1 ≤ kept
  pub few : kept ≤ (node_at nodes head).count
  pub at : block ≡ step nodes (kept - 1) head
  pub lower : (node_at nodes block).position < position
  pub upper : kept < (node_at nodes head).count → position ≤ (node_at nodes (step nodes kept head)).position

-- the blocks of a chain have nodes, and so has its last one
pub record IsWithin (nodes : List Node) (head : ℕ) : Type 0 where
  pub steps : (k : ℕ) → k < (node_at nodes head).count → step nodes k head < length nodes
  pub some : 1 ≤ (node_at nodes head).count
  pub last : (node_at nodes head).last ≡ step nodes ((node_at nodes head).count - 1) head
  pub rising : Rises (chain_at nodes head)
