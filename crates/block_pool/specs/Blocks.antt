-- The bytes of the region's blocks.
use Rattle.std.specs.Prelude.{ℕ, zero, suc, ◌+◌, ◌==◌, List, [], ◌∷◌, ◌++◌, length, take, drop, slice_set, if◌then◌else◌}
use Rattle.staging_spec.specs.Content.{zeros}

-- so many parts of one size, one after another
abbrev pub parts : ℕ → ℕ → List ℕ → List (List ℕ)
parts size zero bytes = []
parts size (suc count) bytes = take size bytes ∷ parts size count (drop size bytes)

-- a block with other bytes from a place on
abbrev pub overwritten : List ℕ → ℕ → List ℕ → List ℕ
overwritten block first bytes = take first block ++ (bytes ++ drop (first + length bytes) block)

-- the blocks with zeros in one of them, or with one more, of zeros
abbrev pub readied : ℕ → List (List ℕ) → ℕ → List (List ℕ)
readied size blocks block = if block == length blocks then blocks ++ zeros size ∷ [] else slice_set blocks block (zeros size)

-- the blocks that were used, and how many there can be
pub record RegionBytes : Type 0 where
  pub blocks : List (List ℕ)
  pub limit : ℕ
