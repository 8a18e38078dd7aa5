-- Paths, prefixes and the suffix of shown names. A path is what an object is named, and a directory's prefix is what
-- the names of all that lies in it begin with, as in gcsfuse's semantics of directories. The suffix, by which a file is
-- told from a directory of the same name, is gcsfuse's too.
use Rattle.std.specs.Prelude.{◌≡◌, ℕ, ◌-◌, ◌≤◌, Bool, List, [], ◌∷◌, ◌++◌, length, take, nat_eq, if◌then◌else◌, All}
use Rattle.std.specs.List.{ends_with}
use Rattle.object_names.specs.Components.{IsComponent}

-- the greatest length of a path, in bytes
abbrev pub path_max : ℕ
path_max = 1023

-- what the names in a directory begin with: each component on the way to it, and a slash. The root's is empty
abbrev pub prefix_of : List (List ℕ) → List ℕ
prefix_of [] = []
prefix_of (part ∷ parts) = part ++ 47 ∷ prefix_of parts

-- the prefix of a directory, from the components on the way to it
pub record IsPrefix (prefix : List ℕ) : Type 0 where
  pub parts : List (List ℕ)
  pub components : All IsComponent parts
  pub is : prefix ≡ prefix_of parts

-- a path: the prefix of a directory, and the component of a child
pub record IsPath (path : List ℕ) : Type 0 where
  pub prefix : List ℕ
  pub part : List ℕ
  pub parent : IsPrefix prefix
  pub child : IsComponent part
  pub is : path ≡ prefix ++ part
  pub short : length path ≤ path_max

-- the prefix of the directory at a path; the root's path is empty, and so is its prefix
abbrev pub dir_prefix_of : List ℕ → List ℕ
dir_prefix_of [] = []
dir_prefix_of (byte ∷ path) = (byte ∷ path) ++ 47 ∷ []

-- whether a name ends in this byte, and the name without it
abbrev pub ends_in : ℕ → List ℕ → Bool
ends_in byte name = ends_with nat_eq name (byte ∷ [])

abbrev pub without_end : ℕ → List ℕ → List ℕ
without_end byte name = if ends_in byte name then take (length name - 1) name else name

-- whether a shown name has the suffix, one U+000A at its end, and the name without it
abbrev pub has_suffix : List ℕ → Bool
has_suffix shown = ends_in 10 shown

abbrev pub bare_name : List ℕ → List ℕ
bare_name shown = without_end 10 shown

-- the name under which a component is shown
abbrev pub shown_of : List ℕ → Bool → List ℕ
shown_of part suffixed = if suffixed then part ++ 10 ∷ [] else part

-- where a shown name is that of a component, these are the component and whether it has the suffix
abbrev pub GivesBack : List ℕ → List ℕ → Bool → Type 0
GivesBack shown bare suffixed = (part : List ℕ) (had : Bool) → IsComponent part → shown ≡ shown_of part had → (bare ≡ part) × (suffixed ≡ had)
