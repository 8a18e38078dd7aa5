-- How listed names are kept: of a name that gives an entry only its component, which is what will be shown. With what the
-- name is in the directory, that tells the listed name.
use Rattle.std.specs.Prelude.{◌≡◌, ◌≢◌, ℕ, Bool, true, false, List, [], ◌∷◌, ◌++◌, map, All}
use Rattle.object_names.specs.ShownNames.{Listed, can_show}
use Rattle.object_names.specs.declared.shown.NodeKind.{NodeKind}
use Rattle.dir_listing.specs.Kinds.{file_or_link}
use Rattle.dir_listing.specs.Pages.{none_listed}
use Rattle.dir_listing.specs.declared.kept.Kept.{Kept}
use Rattle.dir_listing.specs.declared.roles.Role.{Role}
use Rattle.dir_listing.specs.declared.roles.Role.TheVariants.{Placeholder, FileObject, NoEntry}

-- whether this part can be shown in the directory of this prefix
abbrev pub shows_part : List ℕ → List ℕ → Bool
shows_part prefix part = can_show (none_listed prefix false) part

-- the part that a path leaves after the prefix, where it can be shown
abbrev pub HasNoPart : List ℕ → List ℕ → Type 0
HasNoPart prefix path = (part : List ℕ) → shows_part prefix part ≡ true → path ≢ prefix ++ part

abbrev pub IsPartOf : List ℕ → List ℕ → List ℕ → Type 0
IsPartOf prefix path part = (shows_part prefix part ≡ true) × (path ≡ prefix ++ part)

-- the listed name, of what is kept of it
abbrev pub listed_name : List ℕ → Role → List ℕ → List ℕ
listed_name prefix Placeholder text = (prefix ++ text) ++ 47 ∷ []
listed_name prefix FileObject text = prefix ++ text
listed_name prefix NoEntry text = text

-- what is kept of a name that gives an entry can be shown, and no part that can be shown has the others
abbrev pub FitsRole : List ℕ → Role → List ℕ → Type 0
FitsRole prefix Placeholder text = shows_part prefix text ≡ true
FitsRole prefix FileObject text = shows_part prefix text ≡ true
FitsRole prefix NoEntry text = (part : List ℕ) → shows_part prefix part ≡ true → (text ≢ prefix ++ part) × (text ≢ (prefix ++ part) ++ 47 ∷ [])

abbrev pub kept_name : List ℕ → Kept → List ℕ
kept_name prefix kept = listed_name prefix kept.role kept.text

abbrev pub told : List ℕ → Kept → (List ℕ × NodeKind)
told prefix kept = (kept_name prefix kept, file_or_link kept.link)

abbrev pub FitsAll : List ℕ → List Kept → Type 0
FitsAll prefix names = All (λ kept. FitsRole prefix kept.role kept.text) names

-- what is kept of a listed item
pub record IsKeptOf (prefix : List ℕ) (item : List ℕ × NodeKind) (kept : Kept) : Type 0 where
  pub tells : told prefix kept ≡ item
  pub fits : FitsRole prefix kept.role kept.text

-- what was kept, as what was listed
abbrev pub listed_from : List ℕ → List Kept → List Kept → Bool → Listed
listed_from prefix items prefixes implicit = record { prefix = prefix; items = map (told prefix) items; prefixes = map (kept_name prefix) prefixes; implicit = implicit }

-- what holds of all that is kept
pub record Fit (prefix : List ℕ) (items prefixes : List Kept) : Type 0 where
  pub items_fit : FitsAll prefix items
  pub prefixes_fit : FitsAll prefix prefixes
