-- What contracts see of the staged contents of a mount's files, and what each call makes of them.
use Rattle.std.specs.Prelude.{◌≡◌, ℕ, ◌≤◌, Some, refl}
use Rattle.std.specs.Coded.{Coded, code_by, coded×, coded_ℕ}
use Rattle.std.specs.FinMap as fin
use Rattle.std.specs.Option.{option_map_or}
use Rattle.staging_spec.specs.Overlays.{held_of}
use Rattle.staging_spec.specs.StagedFiles.{StagedContent, StagedFiles, blocks_in, files_code}
use Rattle.staging_spec.specs.Staging.{Staging}

-- the staged contents, each under the number of its file's node; how many blocks their region has; and for how many
-- more files there is room
pub record Stagings : Type 0 where
  pub files : StagedFiles
  pub blocks : ℕ
  pub spare : ℕ

abbrev pub stagings_code : Coded Stagings
stagings_code =
    code_by (StagedFiles × (ℕ × ℕ)) (coded× files_code (coded× coded_ℕ coded_ℕ))
    (λ t. (t.files, (t.blocks, t.spare))) (λ p. record { files = p.0; blocks = p.1.0; spare = p.1.1 }) (λ _. refl)

-- ---- what calls make of them
-- nothing is staged in a region of so many blocks
abbrev pub no_stagings : ℕ → Stagings
no_stagings blocks = record { files = fin.empty; blocks = blocks; spare = 0 }

-- this is staged of a file now, since this second
abbrev pub with_staging : StagedFiles → ℕ → Staging → ℕ → StagedFiles
with_staging files node staging second = fin.insert files node (record { overlay = held_of staging; seconds = second; nanos = 0 })

-- another time of the staged content of a file, where there is one
abbrev pub with_mtime : StagedFiles → ℕ → ℕ → ℕ → StagedFiles
with_mtime files node seconds nanos =
    option_map_or (λ staged. fin.insert files node (record { overlay = staged.overlay; seconds = seconds; nanos = nanos })) (fin.get files node) files

-- ---- what holds of every table
-- a content is at most 16 MiB long, and its limit lies in it
pub record IsBounded (staged : StagedContent) : Type 0 where
  pub most : staged.overlay.size ≤ 16777216
  pub limit : staged.overlay.limit ≤ staged.overlay.size

-- each content is bounded, and all of them together have touched no more blocks than there are
pub record IsStagings (table : Stagings) : Type 0 where
  pub bounded : (node : ℕ) (staged : StagedContent) → fin.get table.files node ≡ Some staged → IsBounded staged
  pub few : blocks_in table.files ≤ table.blocks
