-- The laws of contents, of touched blocks, of all files and of what is held of staged content, as statements.
use Rattle.std.specs.Prelude.{◌≡◌, ℕ, ◌+◌, ◌-◌, ◌*◌, ◌<◌, ◌≤◌, List, ◌∷◌, ◌++◌, IsTrue, length, take}
use Rattle.std.specs.FinMap as fin
use Rattle.staging_spec.specs.Blocks.{block_size, is_among, met, touch, untouch, Rise}
use Rattle.staging_spec.specs.Content.{zeros, patch, resize}
use Rattle.staging_spec.specs.Overlays.{staging_over, held_of, StandsOver}
use Rattle.staging_spec.specs.StagedFiles.{StagedContent, StagedFiles, blocks_of, blocks_in, blocks_at}
use Rattle.staging_spec.specs.Staging.{Staging, staged, written, resized, needed}

-- bytes cut off never come back: a shrink and then a growth shows zeros
abbrev pub CutOffIsGone : Type 0
CutOffIsGone = (content : List ℕ) (small large : ℕ) → small ≤ length content → small ≤ large → resize (resize content small) large ≡ take small content ++ zeros (large - small)

-- bytes written one behind the other are as if they were written at once
abbrev pub WritesJoin : Type 0
WritesJoin = (content : List ℕ) (offset x y : ℕ) (xs ys : List ℕ)
    → patch (patch content offset (x ∷ xs)) (offset + length (x ∷ xs)) (y ∷ ys) ≡ patch content offset ((x ∷ xs) ++ (y ∷ ys))

-- touched blocks that begin inside a content are at most its blocks
abbrev pub TouchedAreFew : Type 0
TouchedAreFew = (touched : List ℕ) (size : ℕ) → Rise touched → ((block : ℕ) → IsTrue (is_among touched block) → block * block_size < size) → length touched * block_size < size + block_size

-- a write touches as many blocks more as it needs
abbrev pub WritesCount : Type 0
WritesCount = (touched : List ℕ) (first count : ℕ) → Rise touched → length (touch touched (met first count)) ≡ length touched + needed touched first count

-- a size change touches none
abbrev pub ResizesCount : Type 0
ResizesCount = (touched : List ℕ) (size : ℕ) → length (untouch touched size) ≤ length touched

-- ---- the blocks of all files
-- a staged content put in, where another of its file was or none, adds its blocks in place of those
abbrev pub PutsCount : Type 0
PutsCount = (files : StagedFiles) (number : ℕ) (staged : StagedContent) → blocks_in (fin.insert files number staged) + blocks_at files number ≡ blocks_in files + blocks_of staged

-- one let go leaves those of the others
abbrev pub EndsCount : Type 0
EndsCount = (files : StagedFiles) (number : ℕ) → blocks_in (fin.remove files number) + blocks_at files number ≡ blocks_in files

-- ---- what is held of staged content
-- it shows the staged content again, over the source that this stands over
abbrev pub HeldIsShown : Type 0
HeldIsShown = (source : List ℕ) (staging : Staging) → StandsOver source staging → staging_over (held_of staging) source ≡ staging

-- a source that is staged stands over itself
abbrev pub StagedStands : Type 0
StagedStands = (source : List ℕ) → StandsOver source (staged source)

-- whatever is written, staged content stands over its source
abbrev pub WrittenStands : Type 0
WrittenStands = (source : List ℕ) (staging : Staging) → StandsOver source staging → (offset : ℕ) (bytes : List ℕ) → StandsOver source (written staging offset bytes)

-- and however it is resized
abbrev pub ResizedStands : Type 0
ResizedStands = (source : List ℕ) (staging : Staging) → StandsOver source staging → (size : ℕ) → StandsOver source (resized staging size)
