-- How the table holds staged contents: each as a chain of its own in one pool.
use Rattle.std.specs.Prelude.{◌≡◌, ℕ, ◌+◌, ◌≤◌, List, Some, map}
use Rattle.std.specs.FinMap as fin
use Rattle.std.specs.Ordering.{nat_cmp}
use Rattle.block_pool.specs.Chains.{ChainMap}
use Rattle.block_pool.specs.Pool.{Pool, IsPool}
use Rattle.spare_maps.specs.SpareMaps.{Numbered}
use Rattle.staging_spec.specs.StagedFiles.{StagedContent, StagedFiles, blocks_in}
use Rattle.staged_file.specs.Staged.{IsStaged, overlay_of}
use Rattle.staging_table.specs.Stagings.{Stagings}
use Rattle.staging_table.specs.declared.held.Held.{Held}

-- what is held of a file, with the bytes of its chain
abbrev pub content_of : ChainMap (List ℕ) → Held → StagedContent
content_of chains held = record { overlay = overlay_of chains held.staged; seconds = held.seconds; nanos = held.nanos }

abbrev pub files_of : ChainMap (List ℕ) → fin.FinMap nat_cmp Held → StagedFiles
files_of chains held = fin.from_entries (map (λ e. (e.0, content_of chains e.1)) (fin.entries held))

-- the table that a pool, the files held and the spare make
abbrev pub stagings_of : Pool → fin.FinMap nat_cmp Held → ℕ → Stagings
stagings_of pool held spare = record { files = files_of pool.chains held; blocks = pool.blocks; spare = spare }

-- Each file's chain is the pool's; no two files have one chain; the pool's other blocks are free; and there is room for
-- the spare.
pub record HoldsStagings (pool : Pool) (held : Numbered Held) (spare : ℕ) : Type 0 where
  pub valid : IsPool pool
  pub staged : (node : ℕ) (file : Held) → fin.get held.map node ≡ Some file → IsStaged pool.chains file.staged
  pub apart : (node other : ℕ) (file its : Held) (head : ℕ) → fin.get held.map node ≡ Some file → fin.get held.map other ≡ Some its
      → file.staged.chain ≡ Some head → its.staged.chain ≡ Some head → node ≡ other
  pub blocks : pool.free + blocks_in (files_of pool.chains held.map) ≡ pool.blocks
  pub room : spare ≤ held.spare
