-- What the slow program of shown names is handed, and the map in which it keeps them.
use Rattle.std.specs.Prelude.{◌≡◌, ℕ, ◌&&◌, List, map, String, string_bytes, is_some, if◌then◌else◌}
use Rattle.std.specs.BTreeMap.{BTreeMap, get_by_text}
use Rattle.std.specs.Str.{bytes_eq}
use Rattle.object_names.specs.ShownNames.{Listed, kind_shown}
use Rattle.object_names.specs.declared.shown.NodeKind.{NodeKind}
use Rattle.object_names.specs.declared.shown.DirItem.{DirItem}
use Rattle.object_names.specs.declared.slow.Source.{Source}

-- what was listed, as it was handed in
abbrev pub listed_of : Source → Listed
listed_of source = record { prefix = source.prefix.now; items = source.items.now; prefixes = source.prefixes.now; implicit = source.implicit }

module _ {Y : Type 0} where
  -- the entries of a map from shown names to kinds
  abbrev pub items_of : List (String Y × NodeKind) → List DirItem
  items_of entries = map (λ entry. record { shown = string_bytes entry.0; kind = entry.1 }) entries

  -- a name was put into the map with what is shown under it, if anything is
  abbrev pub PutsShown : Listed → List ℕ → BTreeMap (String Y) NodeKind → BTreeMap (String Y) NodeKind → Type 0
  PutsShown listed shown old new = (name : List ℕ) → get_by_text new name ≡ (if bytes_eq name shown && is_some (kind_shown listed shown) then kind_shown listed name else get_by_text old name)
