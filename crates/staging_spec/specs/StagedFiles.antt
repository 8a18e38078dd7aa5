-- The staged contents that a mount holds, each under the number of its file's node, and the blocks that they share.
use Rattle.std.specs.Prelude.{ℕ, ◌+◌, List, length, map, nat_le, Bool, refl}
use Rattle.std.specs.Coded.{Coded, code_by, coded×, coded_ℕ, coded_list}
use Rattle.std.specs.FinMap as fin
use Rattle.std.specs.List.{sum_by}
use Rattle.std.specs.Option.{option_map_or}
use Rattle.std.specs.Ordering.{nat_cmp}
use Rattle.staging_spec.specs.Overlays.{Overlay, bare}
use Rattle.staging_spec.specs.Staging.{needed}

-- What is held of one: its overlay, and the time that it was last changed, in seconds and nanoseconds of Unix time.
pub record StagedContent : Type 0 where
  pub overlay : Overlay
  pub seconds : ℕ
  pub nanos : ℕ

abbrev pub StagedFiles : Type 0
StagedFiles = fin.FinMap nat_cmp StagedContent

-- the numbers of the blocks that an overlay has touched
abbrev pub touched_by : Overlay → List ℕ
touched_by overlay = map (λ b. b.0) overlay.blocks

-- how many blocks one of them has touched, and all of them
abbrev pub blocks_of : StagedContent → ℕ
blocks_of staged = length staged.overlay.blocks

abbrev pub blocks_in : StagedFiles → ℕ
blocks_in files = sum_by blocks_of (fin.values files)

-- and how many the file of a node has touched: none where nothing of it is staged
abbrev pub blocks_at : StagedFiles → ℕ → ℕ
blocks_at files number = option_map_or blocks_of (fin.get files number) 0

-- what is held of a file, whose source has so many bytes: where nothing of it is staged, no block is touched
abbrev pub overlay_at : StagedFiles → ℕ → ℕ → Overlay
overlay_at files number size = option_map_or (λ staged. staged.overlay) (fin.get files number) (bare size)

-- whether a WRITE of so many bytes touches no more blocks than there are, those of all files together
abbrev pub fits : ℕ → StagedFiles → Overlay → ℕ → ℕ → Bool
fits blocks files overlay first count = nat_le (blocks_in files + needed (touched_by overlay) first count) blocks

-- ---- how they are told apart
abbrev overlay_code : Coded Overlay
overlay_code =
    code_by (List (ℕ × List ℕ) × (ℕ × ℕ)) (coded× (coded_list (coded× coded_ℕ (coded_list coded_ℕ))) (coded× coded_ℕ coded_ℕ))
    (λ o. (o.blocks, (o.size, o.limit))) (λ p. record { blocks = p.0; size = p.1.0; limit = p.1.1 }) (λ _. refl)

abbrev staged_code : Coded StagedContent
staged_code =
    code_by (Overlay × (ℕ × ℕ)) (coded× overlay_code (coded× coded_ℕ coded_ℕ))
    (λ s. (s.overlay, (s.seconds, s.nanos))) (λ p. record { overlay = p.0; seconds = p.1.0; nanos = p.1.1 }) (λ _. refl)

abbrev pub files_code : Coded StagedFiles
files_code = fin.code coded_ℕ staged_code
