-- What a spare holds: the memory that a request will want at its end, made before it asks anything.
use Rattle.std.specs.Prelude.{◌≡◌, ℕ, List, [], ◌∷◌, drop, length, Option, Some, None, IfSome, if◌then◌else◌}
use Rattle.std.specs.List.{list_all}
use Rattle.std.specs.Option.{option_map_or}
use Rattle.fuse_replies.specs.declared.reply.Dirent.{Dirent}
use Rattle.fuse_requests.specs.declared.request.Request.{Request}
use Rattle.fuse_requests.specs.declared.request.Request.TheVariants.{Lookup, Setattr, Readlink, Symlink, Mknod, Mkdir, Unlink, Rmdir, Rename, Rename2, Create, Opening, Read, Write, Fsync, Flush, Readdir, Opendir}
use Rattle.mount_model.specs.Observing.{Observed}
use Rattle.mount_model.specs.declared.config.Config.{Config}
use Rattle.mount_rules.specs.Dispatch.{view_in}
use Rattle.mount_rules.specs.Mount.{MountModel}
use Rattle.mount_rules.specs.Plans.{answers_of}
use Rattle.mount_rules.specs.Requests.Create as create
use Rattle.mount_rules.specs.Requests.Lookup as lookup
use Rattle.mount_rules.specs.Requests.Opendir as opendir
use Rattle.mount_rules.specs.Requests.Read as read
use Rattle.mount_rules.specs.Guards.{path_in}
use Rattle.mount_rules.specs.Requests.Readdir as readdir
use Rattle.mount_rules.specs.Requests.Readlink as readlink
use Rattle.mount_rules.specs.Requests.Rename as rename
use Rattle.mount_rules.specs.Requests.Setattr as setattr
use Rattle.mount_rules.specs.Requests.Unlink as unlink
use Rattle.mount_rules.specs.View.{Sight, View}
use Rattle.object_names.specs.declared.shown.DirItem.{DirItem}
use Rattle.staging_spec.specs.StagedFiles.{StagedContent}
use Rattle.mount_state.specs.declared.prepared.Prepared.{Prepared}
use Rattle.mount_state.specs.declared.prepared.Prepared.TheVariants as prepared

-- What a mount provides for a request: nothing; room for a handle or for what is staged of a file; a path, with room for a
-- node and a handle; the name of a node, with room for it among the current ones; the path of what is to be removed, or the
-- old path and the new one of what is to be moved; the entries that a READDIR is answered; a buffer of so many bytes, for what
-- a READ is answered of staged content; or the target that a READLINK is answered.
pub data Provided : Type 0 where
  nothing : Provided
  room : Provided
  path : List ℕ → Provided
  name : List ℕ → Provided
  removal : List ℕ → Provided
  moving : List ℕ → List ℕ → Provided
  entries : List Dirent → Provided
  buffer : ℕ → Provided
  target : List ℕ → Provided

-- for how many nodes, handles and staged contents each, that is room
abbrev pub need : Provided → ℕ
need nothing = 0
need room = 1
need (path text) = 1
need (name text) = 1
need (removal text) = 0
need (moving from to) = 0
need (entries dirents) = 0
need (buffer count) = 0
need (target text) = 0

-- A spare: the entries that an OPENDIR opens its handle with, and what the mount provides.
pub record SpareState : Type 0 where
  pub items : List DirItem
  pub provided : Provided

abbrev pub provided_by : Prepared → Provided
provided_by prepared.Nothing = nothing
provided_by prepared.Room = room
provided_by (prepared.Path text) = path text
provided_by (prepared.Name text) = name text
provided_by (prepared.Removal text) = removal text
provided_by (prepared.Moving from to) = moving from to
provided_by (prepared.Entries row) = entries row.items
provided_by (prepared.Buffer bytes) = buffer (length bytes.items)
provided_by (prepared.Target text) = target text

-- ---- what a request wants
-- a READ of staged content: its bytes
abbrev pub read_wants : ℕ → ℕ → Option StagedContent → Provided
read_wants first size staged = option_map_or (λ s. buffer (read.asked first size s.overlay.size).count) staged nothing

-- a WRITE of any byte: staged content
abbrev pub write_wants : List ℕ → Provided
write_wants [] = nothing
write_wants (byte ∷ bytes) = room

-- a size change: staged content
abbrev pub setattr_wants : setattr.Change → Provided
setattr_wants setattr.resize = room
setattr_wants change = nothing

-- a flush of staged content: the name under which its node is current
abbrev pub flush_wants : Option StagedContent → Option Sight → Provided
flush_wants staged seen = option_map_or (λ s. name (option_map_or (λ (file : Sight). file.name) seen [])) staged nothing

-- a RENAME to another path: both paths
abbrev pub rename_wants : rename.Names → View → Provided
rename_wants names view = if rename.is_same names view then nothing else moving (rename.from_of names view) (rename.to_of names view)

-- what a request that goes on at this view will want
abbrev pub provided_for : Request → View → Provided
provided_for (Lookup node part) view = path (lookup.path_of part view)
provided_for (Create node part) view = path (create.path_of part view)
provided_for (Mknod node mode part) view = path (create.path_of part view)
provided_for (Symlink node part text) view = path (create.path_of part view)
provided_for (Mkdir node part) view = path (create.path_of part view)
provided_for (Readlink node) view = target (readlink.target_in view.kept)
provided_for (Unlink node part) view = removal (unlink.path_of part view)
provided_for (Rmdir node part) view = removal (path_in view.node part)
provided_for (Rename node newdir part newpart) view = rename_wants (record { name = part; newdir = newdir; newname = newpart }) view
provided_for (Rename2 node newdir flags part newpart) view = rename_wants (record { name = part; newdir = newdir; newname = newpart }) view
provided_for (Opening node flags) view = room
provided_for (Opendir node) view = room
provided_for (Read node fh first size) view = read_wants first size view.staged
provided_for (Write node fh first content) view = write_wants content
provided_for (Setattr node valid size mtime nanos) view =
    setattr_wants (setattr.change_in (record { valid = valid; size = size; seconds = mtime; nanos = nanos }) view)
provided_for (Flush node fh) view = flush_wants view.staged view.node
provided_for (Fsync node fh) view = flush_wants view.staged view.node
provided_for (Readdir node fh first size) view = entries (readdir.fitting first size (drop first (readdir.entries_of node view)))
provided_for request view = nothing

-- the spare was prepared for the request, at a mount at which it saw what it sees at this one
abbrev pub IsFor : MountModel → Request → SpareState → Type 0
IsFor mount request spare = spare.provided ≡ provided_for request (view_in mount request)

-- the entries that an OPENDIR opens its handle with, out of these: none where the bucket failed
abbrev pub entries_told : List Observed → List DirItem → Option (List DirItem)
entries_told seen items = if list_all opendir.is_page (answers_of seen) then Some items else None

-- an OPENDIR that observed this opens its handle with these entries, which are those of all pages
abbrev pub Fills : Config → MountModel → Request → List Observed → List DirItem → Type 0
Fills config mount (Opendir node) seen items =
    IfSome (opendir.entries (opendir.prefix_of (view_in mount (Opendir node))) config.implicit_dirs (answers_of seen)) (λ entries. items ≡ entries)
Fills config mount request seen items = Unit {0}

-- a path is provided, that of what is to be removed is, entries are, or a target is
abbrev pub HasPath : Provided → Type 0
HasPath (path text) = Unit {0}
HasPath provided = ⊥

abbrev pub HasRemoval : Provided → Type 0
HasRemoval (removal text) = Unit {0}
HasRemoval provided = ⊥

abbrev pub HasEntries : Provided → Type 0
HasEntries (entries dirents) = Unit {0}
HasEntries provided = ⊥

abbrev pub HasTarget : Provided → Type 0
HasTarget (target text) = Unit {0}
HasTarget provided = ⊥
