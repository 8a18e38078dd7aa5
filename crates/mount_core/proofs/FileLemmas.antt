-- A node that is no directory has the name of an object, which is asked for where the node is looked at; and a request on
-- an open file has a node that is a file.
use Rattle.std.proofs.Common.{◌≡◌, ℕ, Bool, true, false, Option, Some, None, IsSome, refl, sym, ap, subst, ◌∙◌, option_map}
use Rattle.std.proofs.lemmas.Bool.{false≢true}
use Rattle.std.specs.Prelude.{if◌then◌else◌, option_and_then}
use Rattle.std.specs.FinMap as fin
use Rattle.bucket_api.specs.Names.{IsObjectName}
use Rattle.inode_spec.specs.Inodes.{file_of}
use Rattle.mount_laws.proofs.Guarding.{on_open_file-none}
use Rattle.mount_rules.specs.Guards.{is_directory, on_open_file}
use Rattle.mount_rules.specs.Mount.{File, IsKeptOf, IsMount, IsNameOf, MountModel, Node}
use Rattle.mount_rules.specs.Requests.Setattr.{is_file}
use Rattle.mount_rules.specs.Rules.{at_file}
use Rattle.mount_rules.specs.Standing as standing
use Rattle.mount_rules.specs.View.{Looks, Sight, sight_at, sight_of, view_of}
use Rattle.object_names.specs.declared.shown.NodeKind.{NodeKind}
use Rattle.object_names.specs.declared.shown.NodeKind.TheVariants.{Dir, File as RegularFile, Symlink}
use Rattle.dir_listing.proofs.PathLaws.{paths_name}
use Rattle.staging_spec.specs.StagedFiles.{StagedContent}

pub no_directory : (kind : NodeKind) → (kind ≡ Dir → ⊥) → is_directory kind ≡ false
no_directory Dir other = absurd (other refl)
no_directory RegularFile other = refl
no_directory Symlink other = refl

pub file_kind : (kind : NodeKind) → is_file kind ≡ true → is_directory kind ≡ false
file_kind Dir is = absurd (false≢true is)
file_kind RegularFile is = refl
file_kind Symlink is = refl

module _ (mount : MountModel) (number : ℕ) (node : Node) (there : fin.get mount.table.nodes number ≡ Some node) where
  pub named_object : is_directory node.kind ≡ false → IsMount mount → IsObjectName node.name
  named_object other is = by node.kind other (is.names number node there)
    where
      by : (kind : NodeKind) → is_directory kind ≡ false → IsNameOf kind node.name → IsObjectName node.name
      by Dir e name = absurd (false≢true (sym e))
      by RegularFile e name = (paths_name node.name name).0
      by Symlink e name = (paths_name node.name name).0

  -- a node of which something is kept is no directory
  kept_kind : (file : File) → node.file ≡ Some file → IsMount mount → is_directory node.kind ≡ false
  kept_kind file has is = by node.kind (is.files number node there)
    where
      by : (kind : NodeKind) → IsKeptOf kind node.file → is_directory kind ≡ false
      by Dir none = absurd (let never : None ≡ Some file = sym none ∙ has in cc)
      by RegularFile kept = refl
      by Symlink kept = refl

  pub named_file : (file : File) → node.file ≡ Some file → IsMount mount → IsObjectName node.name
  named_file file has is = named_object (kept_kind file has is) is

  -- and of a node that is no directory something is kept
  pub kept_file : is_directory node.kind ≡ false → IsMount mount → IsSome node.file
  kept_file other is = by node.kind other (is.files number node there)
    where
      by : (kind : NodeKind) → is_directory kind ≡ false → IsKeptOf kind node.file → IsSome node.file
      by Dir e none = absurd (false≢true (sym e))
      by RegularFile e kept = kept
      by Symlink e kept = kept

  pub asks_name : is_directory node.kind ≡ false → fin.get mount.staged number ≡ None → standing.asked_name (view_of mount (at_file number)) ≡ Some node.name
  asks_name other unstaged =
      ap (λ (found : Option Node). option_and_then (standing.name_of (fin.get mount.staged number)) (option_map (sight_of number) found)) there
      ∙ ap (λ (staged : Option StagedContent). standing.name_of staged (sight_of number node)) unstaged
      ∙ ap (λ (directory : Bool). if directory then None else Some node.name) other

-- the node of an open file is a file
pub open_file : (mount : MountModel) (number : ℕ) (looks : Looks) (next : Sight → Option ℕ) → looks.node ≡ Some number → IsMount mount
    → on_open_file number (view_of mount looks) next ≡ None → IsSome (file_of mount.table number)
open_file mount number looks next at is free =
    let open_ = on_open_file-none number (view_of mount looks) next free in
    by (fin.get mount.table.nodes number) refl open_.sight (sym (ap (λ (n : Option ℕ). option_and_then (sight_at mount.table) n) at) ∙ open_.seen) open_.file
  where
    by : (found : Option Node) → fin.get mount.table.nodes number ≡ found → (sight : Sight) → option_map (sight_of number) found ≡ Some sight → is_directory sight.kind ≡ false
        → IsSome (option_and_then (λ (node : Node). node.file) found)
    by None there sight seen other = absurd (let never : None ≡ Some sight = seen in cc)
    by (Some node) there sight seen other =
        kept_file mount number node there (subst (λ (s : Sight). is_directory s.kind ≡ false) (let same : sight ≡ sight_of number node = cc in same) other) is
