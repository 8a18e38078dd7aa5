-- Showing a name: which node the kernel is given for it, and which nodes are then there. Node identity is this project's
-- own rule: a node keeps its number while the bucket shows the generation that it stands for, or an older moment.
use Rattle.std.specs.Prelude.{ℕ, max, Bool, ◌==◌, ◌||◌, nat_lt, List, Option, Some, None, option_and_then, option_map, if◌then◌else◌}
use Rattle.std.specs.FinMap as fin
use Rattle.std.specs.Option.{option_map_or}
use Rattle.bucket_api.specs.Metadata.{Metadata}
use Rattle.dir_listing.specs.Kinds.{node_kind}
use Rattle.inode_spec.specs.Inodes.{granted, looked_up, with_inode}
use Rattle.object_names.specs.declared.shown.NodeKind.TheVariants.{Dir}
use Rattle.mount_rules.specs.Mount.{File, Kept, Node, NodeTable}

-- what a file or symlink is that the bucket told of at a moment
abbrev pub file_shown : Metadata → ℕ → File
file_shown meta moment = record { source = meta.generation; size = meta.size; kept = record { meta = meta; known = moment } }

-- a new node of it, with one look-up
abbrev pub new_node : List ℕ → Metadata → ℕ → Node
new_node name meta moment = record { kind = node_kind meta; name = name; lookups = 1; file = Some (file_shown meta moment) }

-- a new node of a directory, by the name of its placeholder, with one look-up
abbrev pub new_directory : List ℕ → Node
new_directory name = record { kind = Dir; name = name; lookups = 1; file = None }

-- what tells the greater metageneration
abbrev pub newer : Metadata → Metadata → Metadata
newer kept meta = if nat_lt kept.metageneration meta.metageneration then meta else kept

-- what is kept of a generation that is shown again: what tells the greater metageneration, and the later moment
abbrev pub shown_again : Kept → Metadata → ℕ → Kept
shown_again kept meta moment = record { meta = newer kept.meta meta; known = max kept.known moment }

-- the file after its own generation was shown at a moment; another generation leaves it as it was
abbrev pub refreshed : Metadata → ℕ → File → File
refreshed meta moment file = if file.source == meta.generation then record file { kept = shown_again file.kept meta moment } else file

-- the file stands for this generation, or was known later
abbrev pub stands_for : Metadata → ℕ → File → Bool
stands_for meta moment file = file.source == meta.generation || nat_lt moment file.kept.known

-- A node and its number.
pub record Numbered : Type 0 where
  pub number : ℕ
  pub node : Node

-- the current node of the name, where `again` says how it is shown again
abbrev pub current_shown : (Node → Option Node) → NodeTable → List ℕ → Option Numbered
current_shown again table name =
    option_and_then (λ number. option_and_then (λ node. option_and_then (λ shown. Some (record { number = number; node = shown })) (again node)) (fin.get table.nodes number))
    (fin.get table.current name)

-- its number
abbrev pub number_shown : (Node → Option Node) → NodeTable → List ℕ → Option ℕ
number_shown again table name = option_map (λ (shown : Numbered). shown.number) (current_shown again table name)

-- a node that is shown again, or a new one, with its number; and the table with it
abbrev pub shown_or_new : NodeTable → Option Numbered → Node → Numbered
shown_or_new table again new = option_map_or (λ shown. shown) again (record { number = table.next; node = new })

abbrev pub with_shown_or_new : NodeTable → Option Numbered → Node → NodeTable
with_shown_or_new table again new = option_map_or (λ (shown : Numbered). with_inode table shown.number shown.node) again (granted table new)

-- how a node is shown again by an object that the bucket showed at a moment
abbrev pub object_again : Metadata → ℕ → Node → Option Node
object_again meta moment node =
    option_and_then (λ file. if stands_for meta moment file then Some (looked_up (record node { file = Some (refreshed meta moment file) })) else None) node.file

-- which node a name is shown by, where the bucket showed this object at this moment; and the table then
abbrev pub shown_by : NodeTable → List ℕ → Metadata → ℕ → Numbered
shown_by table name meta moment = shown_or_new table (current_shown (object_again meta moment) table name) (new_node name meta moment)

abbrev pub after_showing : NodeTable → List ℕ → Metadata → ℕ → NodeTable
after_showing table name meta moment = with_shown_or_new table (current_shown (object_again meta moment) table name) (new_node name meta moment)

-- the same of a directory, by the name of its placeholder: its current node, or a new one
abbrev pub directory_again : Node → Option Node
directory_again node = Some (looked_up node)

abbrev pub directory_by : NodeTable → List ℕ → Numbered
directory_by table name = shown_or_new table (current_shown directory_again table name) (new_directory name)

abbrev pub after_directory : NodeTable → List ℕ → NodeTable
after_directory table name = with_shown_or_new table (current_shown directory_again table name) (new_directory name)
