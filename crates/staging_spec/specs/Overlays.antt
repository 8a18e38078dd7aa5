-- Staged content as a mount holds it: the bytes of its touched blocks, over a source of which all else still is.
use Rattle.std.specs.Prelude.{◌≡◌, ℕ, ◌-◌, ◌*◌, ◌%◌, ◌<◌, ◌≤◌, false, List, [], Option, Some, None, ◌++◌, IsTrue, cond, length, take, drop, map, nat_eq, nat_lt, slice_index}
use Rattle.std.specs.Map.{lookup}
use Rattle.staging_spec.specs.Blocks.{block_size, block_of, numbers_from, is_among, Rise}
use Rattle.staging_spec.specs.Content.{zeros}
use Rattle.staging_spec.specs.Staging.{Staging}

-- The touched blocks at their numbers, which rise, each with its bytes; the length of the content; and the limit, below
-- which a byte in no touched block is the source's. Behind the limit it is a zero.
pub record Overlay : Type 0 where
  pub blocks : List (ℕ × List ℕ)
  pub size : ℕ
  pub limit : ℕ

-- a byte of the source below the limit; 0 behind it
abbrev pub source_byte : ℕ → List ℕ → ℕ → ℕ
source_byte limit source byte = cond (nat_lt byte limit) (slice_index source byte) 0

-- a byte of a touched block, or of the source where the block is not touched
abbrev pub byte_in : Option (List ℕ) → ℕ → List ℕ → ℕ → ℕ
byte_in None limit source byte = source_byte limit source byte
byte_in (Some block) limit source byte = slice_index block (byte % block_size)

-- the byte that stands at a place over a source
abbrev pub overlay_byte : Overlay → List ℕ → ℕ → ℕ
overlay_byte overlay source byte = byte_in (lookup (nat_eq (block_of byte)) overlay.blocks) overlay.limit source byte

-- what is staged over a source
abbrev pub staging_over : Overlay → List ℕ → Staging
staging_over overlay source = record {
  content = map (overlay_byte overlay source) (numbers_from 0 overlay.size);
  touched = map (λ b. b.0) overlay.blocks;
  limit = overlay.limit;
}

-- a source, of this length, is staged: no block is touched
abbrev pub bare : ℕ → Overlay
bare size = record { blocks = []; size = size; limit = size }

-- the bytes of a block of a content, and zeros behind its end
abbrev pub block_in : List ℕ → ℕ → List ℕ
block_in content block =
    let bytes = take block_size (drop (block * block_size) content) in bytes ++ zeros (block_size - length bytes)

-- what is held of staged content: the bytes of its touched blocks, its length, and the limit
abbrev pub held_of : Staging → Overlay
held_of staging = record {
  blocks = map (λ block. (block, block_in staging.content block)) staging.touched;
  size = length staging.content;
  limit = staging.limit;
}

-- Staged content stands over a source: the limit lies in both, touched blocks rise and begin inside the content, and
-- each byte in no touched block is the source's below the limit and 0 behind it.
pub record StandsOver (source : List ℕ) (staging : Staging) : Type 0 where
  pub limits : (staging.limit ≤ length source) × (staging.limit ≤ length staging.content)
  pub rise : Rise staging.touched
  pub inside : (block : ℕ) → IsTrue (is_among staging.touched block) → block * block_size < length staging.content
  pub rest : (byte : ℕ) → byte < length staging.content → is_among staging.touched (block_of byte) ≡ false → slice_index staging.content byte ≡ source_byte staging.limit source byte
