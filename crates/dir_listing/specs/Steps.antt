-- How the entries of a directory come together in a map from shown names to kinds: first the directories, then file by
-- file the files and symlinks.
use Rattle.std.specs.Prelude.{◌≡◌, ℕ, Bool, true, false, ◌&&◌, ◌||◌, List, map, filter, Option, Some, None, is_none, String, if◌then◌else◌, All}
use Rattle.std.specs.BTreeMap.{BTreeMap, get_by_text}
use Rattle.std.specs.List.{list_any}
use Rattle.std.specs.Str.{bytes_eq}
use Rattle.object_names.specs.Components.{IsComponent}
use Rattle.object_names.specs.Paths.{has_suffix, bare_name}
use Rattle.object_names.specs.ShownNames.{first_kind}
use Rattle.object_names.specs.declared.shown.DirItem.{DirItem}
use Rattle.object_names.specs.declared.shown.NodeKind.{NodeKind}
use Rattle.object_names.specs.declared.shown.NodeKind.TheVariants.{Dir}
use Rattle.dir_listing.specs.Kinds.{file_or_link}
use Rattle.dir_listing.specs.declared.kept.Kept.{Kept}
use Rattle.dir_listing.specs.declared.roles.Role.{Role}
use Rattle.dir_listing.specs.declared.roles.Role.TheVariants.{Placeholder, FileObject, NoEntry}

abbrev pub is_placeholder : Role → Bool
is_placeholder Placeholder = true
is_placeholder FileObject = false
is_placeholder NoEntry = false

abbrev pub is_file_object : Role → Bool
is_file_object Placeholder = false
is_file_object FileObject = true
is_file_object NoEntry = false

-- ---- the directories
-- whether this was kept of the directory of this part
abbrev pub is_dir_of : List ℕ → Kept → Bool
is_dir_of part kept = is_placeholder kept.role && bytes_eq kept.text part

abbrev pub kept_dir : List Kept → List ℕ → Bool
kept_dir names part = list_any (is_dir_of part) names

-- whether items, or prefixes where they make directories, tell of the directory of this part
abbrev pub kept_dirs : List Kept → List Kept → Bool → List ℕ → Bool
kept_dirs items prefixes implicit part = kept_dir items part || (implicit && kept_dir prefixes part)

-- ---- the files and symlinks
abbrev pub kept_files : List Kept → List DirItem
kept_files names = map (λ kept. record { shown = kept.text; kind = file_or_link kept.link }) (filter (λ kept. is_file_object kept.role) names)

abbrev pub is_dir_kind : Option NodeKind → Bool
is_dir_kind (Some Dir) = true
is_dir_kind kind = false

-- a file or symlink under a name without the suffix
pub record IsFile (file : DirItem) : Type 0 where
  pub component : IsComponent file.shown
  pub no_dir : is_dir_kind (Some file.kind) ≡ false

-- the kind that the first file of this part has
abbrev pub file_in : List DirItem → List ℕ → Option NodeKind
file_in files part = first_kind part (map (λ file. (file.shown, file.kind)) files)

-- the first of two kinds, where there is one
abbrev pub first_of : Option NodeKind → NodeKind → NodeKind
first_of None kind = kind
first_of (Some first) kind = first

-- the files, with one more
abbrev pub with_file : List ℕ → NodeKind → (List ℕ → Option NodeKind) → List ℕ → Option NodeKind
with_file name kind file part = if bytes_eq part name then Some (first_of (file part) kind) else file part

-- ---- both together
-- what is shown under a name, where these are the directories and these the files
abbrev pub kind_with : (List ℕ → Bool) → (List ℕ → Option NodeKind) → List ℕ → Option NodeKind
kind_with is_dir file shown =
    if has_suffix shown then (if is_dir (bare_name shown) then file (bare_name shown) else None)
    else if is_dir shown then Some Dir
    else file shown

module _ {Y : Type 0} where
  -- the map has these entries
  abbrev pub Has : (List ℕ → Option NodeKind) → BTreeMap (String Y) NodeKind → Type 0
  Has kind entries = (shown : List ℕ) → get_by_text entries shown ≡ kind shown

  -- the directory of this name was put into the map, if it is one
  abbrev pub PutsDir : Kept → BTreeMap (String Y) NodeKind → BTreeMap (String Y) NodeKind → Type 0
  PutsDir kept old new = (shown : List ℕ) → get_by_text new shown ≡ (if is_dir_of shown kept then Some Dir else get_by_text old shown)

  -- the directories of these prefixes were, where prefixes make directories
  abbrev pub PutsDirs : List Kept → Bool → BTreeMap (String Y) NodeKind → BTreeMap (String Y) NodeKind → Type 0
  PutsDirs prefixes implicit old new = (shown : List ℕ) → get_by_text new shown ≡ (if implicit && kept_dir prefixes shown then Some Dir else get_by_text old shown)

  -- a kind was put under a name
  abbrev pub Puts : List ℕ → NodeKind → BTreeMap (String Y) NodeKind → BTreeMap (String Y) NodeKind → Type 0
  Puts name kind old new = (shown : List ℕ) → get_by_text new shown ≡ (if bytes_eq name shown then Some kind else get_by_text old shown)

  -- a kind was put under a name, where nothing stood there
  abbrev pub PutsFirst : List ℕ → NodeKind → BTreeMap (String Y) NodeKind → BTreeMap (String Y) NodeKind → Type 0
  PutsFirst name kind old new = (shown : List ℕ) → get_by_text new shown ≡ (if is_none (get_by_text old name) && bytes_eq name shown then Some kind else get_by_text old shown)

  -- this file was put into the map, whatever directories and files it had
  abbrev pub PutsFile : List ℕ → NodeKind → BTreeMap (String Y) NodeKind → BTreeMap (String Y) NodeKind → Type 0
  PutsFile name kind old new = (is_dir : List ℕ → Bool) (file : List ℕ → Option NodeKind)
      → IsComponent name → is_dir_kind (file name) ≡ false
      → Has (kind_with is_dir file) old → Has (kind_with is_dir (with_file name kind file)) new

  -- these files were, whatever directories it had, of which no name has the suffix
  abbrev pub PutsFiles : List DirItem → BTreeMap (String Y) NodeKind → BTreeMap (String Y) NodeKind → Type 0
  PutsFiles files old new = (is_dir : List ℕ → Bool) → ((part : List ℕ) → has_suffix part ≡ true → is_dir part ≡ false)
      → All IsFile files
      → Has (λ shown. if is_dir shown then Some Dir else None) old → Has (kind_with is_dir (file_in files)) new
