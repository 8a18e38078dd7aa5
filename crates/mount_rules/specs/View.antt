-- What a request may see of a mount: its view, which is all that decides whether it is refused, what it asks of the
-- bucket and what it claims. Counts of look-ups, moments and next numbers are in no view.
use Rattle.std.specs.Prelude.{ℕ, Bool, List, ◌++◌, map, Option, option_and_then, option_map}
use Rattle.std.specs.FinMap as fin
use Rattle.std.specs.Option.{option_map_or}
use Rattle.bucket_api.specs.Metadata.{Metadata}
use Rattle.handle_table.specs.Handles.{Opened}
use Rattle.inode_spec.specs.Inodes.{is_live}
use Rattle.mount_rules.specs.Mount.{File, Node, NodeTable, MountModel}
use Rattle.object_names.specs.declared.shown.NodeKind.{NodeKind}
use Rattle.staging_spec.specs.StagedFiles.{StagedContent}

-- What is seen of a node that is there. A directory has the source and the size 0.
pub record Sight : Type 0 where
  pub kind : NodeKind
  pub name : List ℕ
  pub live : Bool
  pub source : ℕ
  pub size : ℕ

abbrev pub sight_of : ℕ → Node → Sight
sight_of number node = record {
  kind = node.kind;
  name = node.name;
  live = is_live number node;
  source = option_map_or (λ (file : File). file.source) node.file 0;
  size = option_map_or (λ (file : File). file.size) node.file 0;
}

abbrev pub sight_at : NodeTable → ℕ → Option Sight
sight_at table number = option_map (sight_of number) (fin.get table.nodes number)

-- what is kept of the object of a file or symlink
abbrev pub kept_at : NodeTable → ℕ → Option Metadata
kept_at table number = option_and_then (λ (node : Node). option_map (λ (file : File). file.kept.meta) node.file) (fin.get table.nodes number)

-- A node that a name has, by its number, with what is staged of it.
pub record Named : Type 0 where
  pub number : ℕ
  pub sight : Sight
  pub staged : Option StagedContent

-- the current node of a name
abbrev pub current_at : MountModel → List ℕ → Option Named
current_at mount name =
    option_and_then (λ number. option_map (λ sight. record { number = number; sight = sight; staged = fin.get mount.staged number }) (sight_at mount.table number))
    (fin.get mount.table.current name)

-- Where a request looks: at the node that its head names, at a second directory, at a handle, at what is kept of the
-- node's object, at what is staged of it, at the current node of a name in the head's directory, and at the nodes of a list.
pub record Looks : Type 0 where
  pub node : Option ℕ
  pub directory : Option ℕ
  pub handle : Option ℕ
  pub kept : Option ℕ
  pub staged : Option ℕ
  pub old : Option (List ℕ)
  pub listed : List ℕ

pub record View : Type 0 where
  pub node : Option Sight
  pub directory : Option Sight
  pub handle : Option Opened
  pub kept : Option Metadata
  pub staged : Option StagedContent
  pub old : Option Named
  pub listed : List (Option Sight)

-- the path of a child, by what is seen of its directory
abbrev pub child_of : Sight → List ℕ → List ℕ
child_of directory part = directory.name ++ part

-- the current node of a part of a directory
abbrev pub old_at : MountModel → Option Sight → List ℕ → Option Named
old_at mount directory part = option_and_then (λ (d : Sight). current_at mount (child_of d part)) directory

-- The one function that looks into a mount for a request.
abbrev pub view_of : MountModel → Looks → View
view_of mount looks =
    let node = option_and_then (sight_at mount.table) looks.node in
    record {
      node = node;
      directory = option_and_then (sight_at mount.table) looks.directory;
      handle = option_and_then (fin.get mount.handles) looks.handle;
      kept = option_and_then (kept_at mount.table) looks.kept;
      staged = option_and_then (fin.get mount.staged) looks.staged;
      old = option_and_then (old_at mount node) looks.old;
      listed = map (sight_at mount.table) looks.listed;
    }
