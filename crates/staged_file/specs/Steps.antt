-- What the steps of a call change and what they leave, byte by byte.
use Rattle.std.specs.Prelude.{◌≡◌, ℕ, ◌+◌, ◌-◌, ◌*◌, ◌/◌, ◌<◌, ◌≤◌, ◌⊎◌, List, IsTrue, slice_index}
use Rattle.block_pool.specs.Pool.{Pool, Keeps}
use Rattle.staging_spec.specs.Blocks.{is_among}
use Rattle.staged_file.specs.Staged.{StagedFile, IsStaged}

-- What a call leaves: every other chain; how many blocks are free or this file's, and how many there are; the length of the source.
pub record Leaves (was : Pool) (old : StagedFile) (now : Pool) (new : StagedFile) : Type 0 where
  pub kept : Keeps was.chains now.chains old.chain new.chain
  pub free : now.free + new.touched ≡ was.free + old.touched
  pub blocks : now.blocks ≡ was.blocks
  pub base : new.base ≡ old.base

-- What a step inside a call leaves too: it is staged content of the same length and limit.
pub record IsStep (was : Pool) (old : StagedFile) (now : Pool) (new : StagedFile) : Type 0 where
  pub staged : IsStaged now.chains new
  pub leaves : Leaves was old now new
  pub size : new.size ≡ old.size
  pub limit : new.limit ≡ old.limit

-- The bytes of a range are those of a slice that begins at a place; all others are as they were.
pub record Puts (was now : ℕ → ℕ) (low high first : ℕ) (bytes : List ℕ) : Type 0 where
  pub inside : (i : ℕ) → low ≤ i → i < high → now i ≡ slice_index bytes (i - first)
  pub below : (i : ℕ) → i < low → now i ≡ was i
  pub above : (i : ℕ) → high ≤ i → now i ≡ was i

-- All bytes outside a range are as they were.
pub record SameBut (was now : ℕ → ℕ) (low high : ℕ) : Type 0 where
  pub below : (i : ℕ) → i < low → now i ≡ was i
  pub above : (i : ℕ) → high ≤ i → now i ≡ was i

-- The bytes of a block are zeros; all others are as they were.
pub record Zeroes (was now : ℕ → ℕ) (block : ℕ) : Type 0 where
  pub inside : (i : ℕ) → i / 65536 ≡ block → now i ≡ 0
  pub other : (i : ℕ) → (i / 65536 ≡ block → ⊥) → now i ≡ was i

-- The bytes of a range are zeros; all others are as they were.
pub record Clears (was now : ℕ → ℕ) (low high : ℕ) : Type 0 where
  pub inside : (i : ℕ) → low ≤ i → i < high → now i ≡ 0
  pub below : (i : ℕ) → i < low → now i ≡ was i
  pub above : (i : ℕ) → high ≤ i → now i ≡ was i

-- Bytes of a slice may be put at a range: it lies in one touched block, in the content and in the slice.
pub record CanPut (touched : List ℕ) (size low high first count : ℕ) : Type 0 where
  pub there : IsTrue (is_among touched (low / 65536))
  pub block : high ≤ (low / 65536 + 1) * 65536
  pub inside : high ≤ size
  pub within : (first ≤ low) × (high ≤ first + count)

-- What a block wants that is touched for a write of a range lies in a slice of the source.
pub record CanTouch (limit block first end base_first count : ℕ) : Type 0 where
  pub there : (i : ℕ) → i / 65536 ≡ block → i < limit → (i < first) ⊎ (end ≤ i) → (base_first ≤ i) × (i < base_first + count)

-- What is still the source's of a range of bytes, none of which is touched, lies in a slice of the source.
pub record CanRead (limit low high base_first count : ℕ) : Type 0 where
  pub there : (i : ℕ) → low ≤ i → i < high → i < limit → (base_first ≤ i) × (i < base_first + count)

-- The bytes of a range stand in a slice whose first byte stands at a place; the slice is else as it was.
pub record Reads (shown : ℕ → ℕ) (first : ℕ) (was now : List ℕ) (low high : ℕ) : Type 0 where
  pub inside : (i : ℕ) → low ≤ i → i < high → slice_index now (i - first) ≡ shown i
  pub below : (k : ℕ) → first + k < low → slice_index now k ≡ slice_index was k
  pub above : (k : ℕ) → high ≤ first + k → slice_index now k ≡ slice_index was k
