-- The laws that tie a file's chain to what is held of its staged content, as statements.
use Rattle.std.specs.Prelude.{◌≡◌, ℕ, List}
use Rattle.block_pool.specs.Chains.{ChainMap}
use Rattle.block_pool.specs.Pool.{Pool, IsPool}
use Rattle.staging_spec.specs.Overlays.{held_of, staging_over}
use Rattle.staged_file.specs.Staged.{StagedFile, IsStaged, staging_of, overlay_of}

-- a file shows over a source what its chain holds
abbrev pub ChainIsShown : Type 0
ChainIsShown = (chains : ChainMap (List ℕ)) (file : StagedFile) (source : List ℕ) → staging_of chains file source ≡ staging_over (overlay_of chains file) source

-- a chain holds of the staged content exactly what is to be held of it, whatever the source
abbrev pub ChainIsHeld : Type 0
ChainIsHeld = (pool : Pool) (file : StagedFile) (source : List ℕ) → IsPool pool → IsStaged pool.chains file → held_of (staging_of pool.chains file source) ≡ overlay_of pool.chains file
