-- What contracts see of a file cache, and what holds of its parts.
use Rattle.std.specs.Prelude.{◌≡◌, ℕ, ◌+◌, ◌-◌, ◌≤◌, List, ◌∷◌, length, take, refl}
use Rattle.std.specs.Coded.{Coded, code_by, coded×, coded_ℕ, coded_list}
use Rattle.cache_spec.specs.declared.file_key.FileKey.{FileKey}
use Rattle.file_cache.specs.declared.filled.Filled.{Filled}
use Rattle.file_cache.specs.declared.filled.Filled.TheVariants.{Kept, TooLarge, NoMemory}
use Rattle.cache_spec.specs.KeptFiles.{KeptFiles, blocks_in, filled, made_room}
use Rattle.block_pool.specs.Pool.{Pool}
use Rattle.file_cache.specs.Stored.{StoredFiles, contents_in, AllStored}

-- the kept files, the one that was used last first, and how many blocks they may take
pub record Cache : Type 0 where
  pub files : KeptFiles
  pub blocks : ℕ

abbrev pub file_key_code : Coded FileKey
file_key_code = code_by (List ℕ × ℕ) (coded× (coded_list coded_ℕ) coded_ℕ) (λ k. (k.name, k.generation)) (λ p. record { name = p.0; generation = p.1 }) (λ _. refl)

abbrev pub cache_code : Coded Cache
cache_code = code_by (KeptFiles × ℕ) (coded× (coded_list (coded× file_key_code (coded_list coded_ℕ))) coded_ℕ) (λ c. (c.files, c.blocks)) (λ p. record { files = p.0; blocks = p.1 }) (λ _. refl)

-- Each file has a chain of its own in the region, and the blocks that are free and those of all files are all there are.
-- The order of use sets no limit of its own.
pub record IsHeld (files : StoredFiles) (cap : ℕ) (region : Pool) (blocks : ℕ) : Type 0 where
  pub stored : AllStored region.chains files
  pub all : region.free + blocks_in (contents_in region.chains files) ≡ blocks
  pub size : region.blocks ≡ blocks
  pub unbounded : blocks ≤ cap

-- the files that a fill leaves, by what came of it
abbrev pub left_by : Filled → ℕ → KeptFiles → FileKey → List ℕ → KeptFiles
left_by Kept blocks files key content = filled blocks files key content
left_by TooLarge blocks files key content = files
left_by NoMemory blocks files key content = made_room blocks files content

-- all files but the one that was used longest ago
abbrev pub but_last : {X : Type 0} → List X → List X
but_last files = take (length files - 1) files

-- what came of putting a file: it stands in front, or memory was refused and nothing has changed
abbrev pub IsPut : Cache → Cache → FileKey → List ℕ → Filled → Type 0
IsPut old new key content Kept = new ≡ record old { files = (key, content) ∷ old.files }
IsPut old new key content TooLarge = ⊥
IsPut old new key content NoMemory = new ≡ old
