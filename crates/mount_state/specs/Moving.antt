-- What a RENAME sees of a mount, and its two paths there.
use Rattle.std.specs.Prelude.{◌≡◌, ℕ, Bool, false, List, Option, is_some}
use Rattle.std.specs.Option.{option_map_or}
use Rattle.mount_rules.specs.Mount.{MountModel}
use Rattle.mount_rules.specs.Requests.Rename.{Names, busy_refusal, from_of, looks, refusal, to_of}
use Rattle.mount_rules.specs.View.{Named, View, current_at, view_of}
use Rattle.mount_state.specs.declared.moving.TwoPaths.{TwoPaths}

abbrev pub names_of : List ℕ → ℕ → List ℕ → Names
names_of name newdir newname = record { name = name; newdir = newdir; newname = newname }

abbrev pub moving_view : MountModel → ℕ → Names → View
moving_view mount node names = view_of mount (looks node names)

-- the node that a name has, if any, has staged content
abbrev pub has_staged : Option Named → Bool
has_staged old = option_map_or (λ (named : Named). is_some named.staged) old false

-- Neither a directory nor a name refuses the RENAME, these are its paths, and it sees the current node of the old one.
pub record IsMoving (mount : MountModel) (node : ℕ) (names : Names) (paths : TwoPaths) : Type 0 where
  pub goes_on : refusal names (moving_view mount node names) ≡ busy_refusal names (moving_view mount node names)
  pub from : paths.from.bytes ≡ from_of names (moving_view mount node names)
  pub to : paths.to.bytes ≡ to_of names (moving_view mount node names)
  pub old : (moving_view mount node names).old ≡ current_at mount paths.from.bytes
