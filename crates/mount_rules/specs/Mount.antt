-- What a mount holds, as plain data.
use Rattle.std.specs.Prelude.{◌≡◌, ℕ, ◌+◌, ◌<◌, ◌≤◌, min, Bool, false, List, Option, Some, None, IsSome}
use Rattle.std.specs.FinMap as fin
use Rattle.std.specs.Ordering.{nat_cmp}
use Rattle.bucket_api.specs.Metadata.{Metadata}
use Rattle.file_metadata.specs.FileMetadata.{last_second}
use Rattle.handle_table.specs.Handles.{Opened}
use Rattle.inode_spec.specs.Inodes.{Inode, Inodes, IsLiveUnder, file_of, first_table}
use Rattle.mount_model.specs.declared.config.Config.{Config}
use Rattle.object_names.specs.Paths.{IsPrefix, IsPath}
use Rattle.object_names.specs.declared.shown.NodeKind.{NodeKind}
use Rattle.object_names.specs.declared.shown.NodeKind.TheVariants.{Dir}
use Rattle.staging_spec.specs.StagedFiles.{StagedContent, StagedFiles}

-- What a mount keeps of the object of a file or symlink: what the bucket last told of its generation, and the moment at
-- which that generation was last known to be live.
pub record Kept : Type 0 where
  pub meta : Metadata
  pub known : ℕ

-- A file or symlink: the generation that it shows, with the size of its content, which changes with it alone; and what
-- is kept of that generation.
pub record File : Type 0 where
  pub source : ℕ
  pub size : ℕ
  pub kept : Kept

abbrev pub Node : Type 0
Node = Inode File

abbrev pub NodeTable : Type 0
NodeTable = Inodes File

abbrev pub OpenHandles : Type 0
OpenHandles = fin.FinMap nat_cmp Opened

-- The nodes, the open handles and the number that the next one gets, what is staged of files, by the numbers of their
-- nodes, and whether a version of the protocol is agreed on. Numbers of nodes and of handles are never used again. The
-- clock is kept beside the mount, by whoever performs its requests: a request needs its second alone.
pub record MountModel : Type 0 where
  pub table : NodeTable
  pub handles : OpenHandles
  pub next_handle : ℕ
  pub staged : StagedFiles
  pub negotiated : Bool

-- a mount before its first request
abbrev pub first_mount : MountModel
first_mount = record { table = first_table; handles = fin.empty; next_handle = 1; staged = fin.empty; negotiated = false }

-- the second of a call, which stamps what it asks: the mount's start and the seconds since at its take, as far as times go
abbrev pub second_at : Config → ℕ → ℕ
second_at config tick = min (config.start + tick) last_second

-- a directory is named by its prefix, a file or symlink by its path
abbrev pub IsNameOf : NodeKind → List ℕ → Type 0
IsNameOf Dir name = IsPrefix name
IsNameOf kind name = IsPath name

-- of a file or symlink something is kept, of a directory nothing
abbrev pub IsKeptOf : NodeKind → Option File → Type 0
IsKeptOf Dir file = file ≡ None
IsKeptOf kind file = IsSome file

-- The node is a file, and its staged content has at most its source's bytes from there.
pub record IsStagedAt (table : NodeTable) (number : ℕ) (staged : StagedContent) : Type 0 where
  pub file : File
  pub there : file_of table number ≡ Some file
  pub limit : staged.overlay.limit ≤ file.size

-- What holds of every mount: nodes and handles have numbers that were given before, nodes have names of their kinds, and
-- what is kept of files; a name's current node is live and has it; and what is staged is staged of a file that is there.
pub record IsMount (mount : MountModel) : Type 0 where
  pub first : 2 ≤ mount.table.next
  pub nodes : (number : ℕ) (node : Node) → fin.get mount.table.nodes number ≡ Some node → number < mount.table.next
  pub names : (number : ℕ) (node : Node) → fin.get mount.table.nodes number ≡ Some node → IsNameOf node.kind node.name
  pub files : (number : ℕ) (node : Node) → fin.get mount.table.nodes number ≡ Some node → IsKeptOf node.kind node.file
  pub current : (name : List ℕ) (number : ℕ) → fin.get mount.table.current name ≡ Some number → IsLiveUnder mount.table name number
  pub handles : (fh : ℕ) (handle : Opened) → fin.get mount.handles fh ≡ Some handle → fh < mount.next_handle
  pub staged : (number : ℕ) (staged : StagedContent) → fin.get mount.staged number ≡ Some staged → IsStagedAt mount.table number staged
