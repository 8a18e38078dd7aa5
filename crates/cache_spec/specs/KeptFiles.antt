-- The files that a cache of so many blocks keeps, the one that was used last first, and what a use and a fill make of them.
use Rattle.std.specs.Prelude.{◌≡◌, ℕ, ◌+◌, ◌-◌, ◌≤◌, ◌/◌, ◌&&◌, Bool, List, [], ◌∷◌, Option, length, nat_le, nat_eq, is_some, if◌then◌else◌}
use Rattle.std.specs.Cmp.Lexicographic.{pointwise}
use Rattle.std.specs.Map.{lookup, lookup_entry, remove_entry}
use Rattle.std.specs.Option.{option_map_or}
use Rattle.cache_spec.specs.declared.file_key.FileKey.{FileKey}

-- kept files with their contents, the one that was used last first
abbrev pub KeptFiles : Type 0
KeptFiles = List (FileKey × List ℕ)

-- one file: the same name and the same generation
abbrev pub same_file : FileKey → FileKey → Bool
same_file = λ a b. pointwise nat_eq a.name b.name && nat_eq a.generation b.generation

-- how many blocks of 65,536 bytes a content takes
abbrev pub blocks_of : List ℕ → ℕ
blocks_of content = (length content + 65535) / 65536

abbrev pub blocks_in : KeptFiles → ℕ
blocks_in [] = 0
blocks_in (file ∷ files) = blocks_of file.1 + blocks_in files

-- ---- finding
abbrev pub content_of : KeptFiles → FileKey → Option (List ℕ)
content_of files key = lookup (same_file key) files

abbrev pub is_kept : KeptFiles → FileKey → Bool
is_kept files key = is_some (content_of files key)

-- ---- using
-- the file comes to the front, where it is kept
abbrev pub used : KeptFiles → FileKey → KeptFiles
used files key = option_map_or (λ file. file ∷ remove_entry (same_file key) files) (lookup_entry (same_file key) files) files

-- The files that stay where the last ones go until the blocks of all are at most so many: the files from the front on,
-- as far as their blocks fit.
abbrev pub fitting : ℕ → KeptFiles → KeptFiles
fitting room [] = []
fitting room (file ∷ files) = if nat_le (blocks_of file.1) room then file ∷ fitting (room - blocks_of file.1) files else []

-- ---- filling
-- the files that stay where room is made for a content
abbrev pub made_room : ℕ → KeptFiles → List ℕ → KeptFiles
made_room capacity files content = fitting (capacity - blocks_of content) files

-- a file that is kept already comes to the front; another is put there, once the last ones have made room
abbrev pub filled : ℕ → KeptFiles → FileKey → List ℕ → KeptFiles
filled capacity files key content = if is_kept files key then used files key else (key, content) ∷ made_room capacity files content

-- ---- what holds of every cache
-- no kept file is empty, and the blocks of all are at most the cache's; so there are no more files than blocks
abbrev pub NoneEmpty : KeptFiles → Type 0
NoneEmpty [] = Unit {0}
NoneEmpty (file ∷ files) = (1 ≤ length file.1) × NoneEmpty files

pub record IsCache (capacity : ℕ) (files : KeptFiles) : Type 0 where
  pub within : blocks_in files ≤ capacity
  pub none_empty : NoneEmpty files
