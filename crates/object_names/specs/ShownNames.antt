-- What a directory shows. The rules for a name that is both a file and a directory are this project's own, after
-- gcsfuse's semantics of directories and of conflicts between files and directories.
use Rattle.std.specs.Prelude.{◌≡◌, ℕ, Bool, ◌&&◌, ◌||◌, List, [], ◌∷◌, ◌++◌, length, map, drop, Option, Some, None, is_some, is_none, nat_le, true, if◌then◌else◌}
use Rattle.std.specs.List.{list_any, filter_map}
use Rattle.std.specs.List.Sorted.{IsStrictlySortedBy}
use Rattle.std.specs.Option.{option_map}
use Rattle.std.specs.Ordering.{nat_cmp}
use Rattle.std.specs.Cmp.Lexicographic.{slice_cmp}
use Rattle.std.specs.Str.{bytes_eq}
use Rattle.std.specs.FinMap as map
use Rattle.object_names.specs.Components.{name_fault}
use Rattle.object_names.specs.Paths.{path_max, has_suffix, bare_name, shown_of, without_end}
use Rattle.object_names.specs.declared.shown.NodeKind.{NodeKind}
use Rattle.object_names.specs.declared.shown.NodeKind.TheVariants.{Dir}
use Rattle.object_names.specs.declared.shown.DirItem.{DirItem}

-- What the pages of a list of a directory told, all pages together: the directory's prefix, each item's name with what
-- kind of node its object is, and the prefixes. Where directories are implicit, a prefix makes one.
pub record Listed : Type 0 where
  pub prefix : List ℕ
  pub items : List (List ℕ × NodeKind)
  pub prefixes : List (List ℕ)
  pub implicit : Bool

-- the name of the object of a file in the directory, and of the placeholder of a directory in it
abbrev pub file_key : Listed → List ℕ → List ℕ
file_key listed part = listed.prefix ++ part

abbrev pub dir_key : Listed → List ℕ → List ℕ
dir_key listed part = (listed.prefix ++ part) ++ 47 ∷ []

-- what the first item of this name tells
abbrev pub first_kind : List ℕ → List (List ℕ × NodeKind) → Option NodeKind
first_kind name items = map.find (slice_cmp nat_cmp) name items

-- only a component can be shown, and only where its path is not too long
abbrev pub can_show : Listed → List ℕ → Bool
can_show listed part = is_none (name_fault part) && nat_le (length (file_key listed part)) path_max

-- whether a directory of this name is there
abbrev pub has_dir : Listed → List ℕ → Bool
has_dir listed part = can_show listed part
    && (is_some (first_kind (dir_key listed part) listed.items)
    || (listed.implicit && list_any (bytes_eq (dir_key listed part)) listed.prefixes))

-- the kind of the file or symlink of this name, if one is there
abbrev pub file_kind : Listed → List ℕ → Option NodeKind
file_kind listed part = if can_show listed part then first_kind (file_key listed part) listed.items else None

-- What is shown under a name. With the suffix, the file that a directory of the same name hides; without it, the
-- directory, and where there is none the file.
abbrev pub kind_shown : Listed → List ℕ → Option NodeKind
kind_shown listed shown =
    if has_suffix shown then (if has_dir listed (bare_name shown) then file_kind listed (bare_name shown) else None)
    else if has_dir listed shown then Some Dir
    else file_kind listed shown

-- the rest of a listed name after the directory's prefix, without a slash at its end
abbrev pub part_of : List ℕ → List ℕ → List ℕ
part_of prefix name = without_end 47 (drop (length prefix) name)

-- what the listed names leave, those of items and prefixes together
abbrev pub listed_parts : Listed → List (List ℕ)
listed_parts listed = map (part_of listed.prefix) (map (λ item. item.0) listed.items ++ listed.prefixes)

-- the names under which something may be shown
abbrev pub names_to_show : Listed → List (List ℕ)
names_to_show listed = listed_parts listed ++ map (λ part. shown_of part true) (listed_parts listed)

-- what is shown, by shown names in the order of their bytes
abbrev pub shown_map : Listed → map.FinMap (slice_cmp nat_cmp) NodeKind
shown_map listed = map.from_entries (filter_map (λ shown. option_map (λ kind. (shown, kind)) (kind_shown listed shown)) (names_to_show listed))

-- the entries of the directory
abbrev pub shown_entries : Listed → List DirItem
shown_entries listed = map (λ entry. record { shown = entry.0; kind = entry.1 }) (map.entries (shown_map listed))

-- the kind that entries have under a name
abbrev pub kind_at : List DirItem → List ℕ → Option NodeKind
kind_at entries shown = map.find (slice_cmp nat_cmp) shown (map (λ entry. (entry.shown, entry.kind)) entries)

-- The entries of a directory, said without naming a list: they stand in the order of the bytes of their names, no name
-- twice, and have under each name what is shown under it.
pub record Shows (listed : Listed) (entries : List DirItem) : Type 0 where
  pub rising : IsStrictlySortedBy (slice_cmp nat_cmp) (map (λ entry. entry.shown) entries)
  pub each : (shown : List ℕ) → kind_at entries shown ≡ kind_shown listed shown
