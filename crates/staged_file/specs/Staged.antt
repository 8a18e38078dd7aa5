-- What contracts see of the staged content of a file: a chain of touched blocks in a pool, over a source.
use Rattle.std.specs.Prelude.{◌≡◌, ℕ, ◌*◌, ◌/◌, ◌<◌, ◌≤◌, List, Option, IsTrue, length, map, refl}
use Rattle.std.specs.Coded.{Coded, code_by, coded×, coded_ℕ, coded_option}
use Rattle.block_pool.specs.Chains.{Entries, ChainMap, entries_of, at, IsChain}
use Rattle.staging_spec.specs.Blocks.{numbers_from, is_among}
use Rattle.staging_spec.specs.Overlays.{Overlay, byte_in}
use Rattle.staging_spec.specs.Staging.{Staging}

-- the chain of touched blocks, the lengths of the source and of the content, the limit, and how many blocks are touched
pub record StagedFile : Type 0 where
  pub chain : Option ℕ
  pub base : ℕ
  pub size : ℕ
  pub limit : ℕ
  pub touched : ℕ

abbrev pub staged_code : Coded StagedFile
staged_code =
    code_by
    (Option ℕ × (ℕ × (ℕ × (ℕ × ℕ))))
    (coded× (coded_option coded_ℕ) (coded× coded_ℕ (coded× coded_ℕ (coded× coded_ℕ coded_ℕ))))
    (λ s. (s.chain, (s.base, (s.size, (s.limit, s.touched)))))
    (λ p. record { chain = p.0; base = p.1.0; size = p.1.1.0; limit = p.1.1.1.0; touched = p.1.1.1.1 })
    (λ _. refl)

-- ---- what stands at each place
-- the byte that stands at a place over a source
abbrev pub shown_byte : Entries (List ℕ) → ℕ → List ℕ → ℕ → ℕ
shown_byte entries limit source byte = byte_in (at entries (byte / 65536)) limit source byte

abbrev pub byte_at : ChainMap (List ℕ) → StagedFile → List ℕ → ℕ → ℕ
byte_at chains staged source byte = shown_byte (entries_of chains staged.chain) staged.limit source byte

-- the bytes at the places below a size
abbrev pub bytes_below : (ℕ → ℕ) → ℕ → List ℕ
bytes_below shown size = map shown (numbers_from 0 size)

-- the positions of blocks
abbrev pub positions : Entries (List ℕ) → List ℕ
positions entries = map (λ e. e.0) entries

-- the blocks that are touched
abbrev pub touched_of : ChainMap (List ℕ) → StagedFile → List ℕ
touched_of chains staged = positions (entries_of chains staged.chain)

-- what is staged over a source
abbrev pub staging_of : ChainMap (List ℕ) → StagedFile → List ℕ → Staging
staging_of chains staged source = record {
  content = bytes_below (byte_at chains staged source) staged.size;
  touched = touched_of chains staged;
  limit = staged.limit;
}

-- what its chain holds of it
abbrev pub overlay_of : ChainMap (List ℕ) → StagedFile → Overlay
overlay_of chains staged = record { blocks = entries_of chains staged.chain; size = staged.size; limit = staged.limit }

-- ---- what holds of it
-- The chain is the pool's; the touched blocks are counted and begin inside the content; behind its end are zeros, over
-- any source; the limit is at most the lengths, and these at most 16 MiB.
pub record IsStaged (chains : ChainMap (List ℕ)) (staged : StagedFile) : Type 0 where
  pub chain : IsChain chains staged.chain
  pub count : staged.touched ≡ length (entries_of chains staged.chain)
  pub inside : (block : ℕ) → IsTrue (is_among (touched_of chains staged) block) → block * 65536 < staged.size
  pub behind : (source : List ℕ) (byte : ℕ) → staged.size ≤ byte → byte_at chains staged source byte ≡ 0
  pub limits : (staged.limit ≤ staged.base) × (staged.limit ≤ staged.size)
  pub most : (staged.base ≤ 16777216) × (staged.size ≤ 16777216)
