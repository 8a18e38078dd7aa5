-- Guards: each looks at one thing that a request names, and refuses the request or goes on with what it saw.
use Rattle.std.specs.Prelude.{ℕ, Bool, true, false, ◌==◌, ◌&&◌, not, is_some, List, length, Option, Some, None, nat_le, option_and_then, if◌then◌else◌}
use Rattle.std.specs.Option.{option_map_or}
use Rattle.handle_table.specs.Handles.{Opened}
use Rattle.object_names.specs.Components.{name_fault}
use Rattle.object_names.specs.Paths.{path_max}
use Rattle.object_names.specs.declared.component.NameFault.{NameFault}
use Rattle.object_names.specs.declared.component.NameFault.TheVariants.{TooLong}
use Rattle.object_names.specs.declared.shown.DirItem.{DirItem}
use Rattle.object_names.specs.declared.shown.NodeKind.{NodeKind}
use Rattle.object_names.specs.declared.shown.NodeKind.TheVariants.{Dir, File, Symlink}
use Rattle.fuse_replies.specs.Errno.{ebadf, einval, eisdir, enametoolong, enotdir, estale}
use Rattle.mount_rules.specs.View.{Sight, View, child_of}

-- a node that is live; another is stale
abbrev pub on_live : Option Sight → (Sight → Option ℕ) → Option ℕ
on_live None next = Some estale
on_live (Some sight) next = if sight.live then next sight else Some estale

abbrev pub is_directory : NodeKind → Bool
is_directory Dir = true
is_directory kind = false

-- a live directory
abbrev pub in_directory : Option Sight → (Sight → Option ℕ) → Option ℕ
in_directory seen next = on_live seen (λ sight. if is_directory sight.kind then next sight else Some enotdir)

-- a file; a directory and a symlink are not read and written as one
abbrev pub on_file : NodeKind → Option ℕ → Option ℕ
on_file Dir next = Some eisdir
on_file Symlink next = Some einval
on_file File next = next

-- a live file
abbrev pub in_file : Option Sight → (Sight → Option ℕ) → Option ℕ
in_file seen next = on_live seen (λ sight. on_file sight.kind (next sight))

-- the error of a name that is no component
abbrev pub errno_of_fault : NameFault → ℕ
errno_of_fault TooLong = enametoolong
errno_of_fault fault = einval

-- a name in a directory: it is a component, and its path is not too long
abbrev pub part_refusal : List ℕ → Sight → Option ℕ
part_refusal part directory =
    option_map_or (λ fault. Some (errno_of_fault fault)) (name_fault part)
    (if nat_le (length (child_of directory part)) path_max then None else Some enametoolong)

-- an open directory, by its handle, on the node that the head names. The node need not be there any more.
abbrev pub entries_opened : ℕ → Opened → Option (List DirItem)
entries_opened node handle = if handle.node == node then handle.items else None

abbrev pub on_open_directory : ℕ → Option Opened → (List DirItem → Option ℕ) → Option ℕ
on_open_directory node handle next = option_map_or next (option_and_then (entries_opened node) handle) (Some ebadf)

abbrev pub not_directory : Sight → Option Sight
not_directory sight = if is_directory sight.kind then None else Some sight

-- What is seen of the node of an open file, by its handle, on the node that the head names. A file stays while a handle
-- holds it, so it is there.
abbrev pub is_file_of : ℕ → Opened → Bool
is_file_of node handle = handle.node == node && not (is_some handle.items)

abbrev pub file_opened : ℕ → View → Option Sight
file_opened node view = option_and_then (λ handle. if is_file_of node handle then option_and_then not_directory view.node else None) view.handle

abbrev pub on_open_file : ℕ → View → (Sight → Option ℕ) → Option ℕ
on_open_file node view next = option_map_or next (file_opened node view) (Some ebadf)

-- the most bytes that a READ or READDIR may ask for
abbrev pub longest_read : ℕ
longest_read = 1048576

abbrev pub size_refusal : ℕ → Option ℕ
size_refusal size = if nat_le size longest_read then None else Some einval

-- the path of a part of the directory that is seen
abbrev pub path_in : Option Sight → List ℕ → List ℕ
path_in directory part = option_map_or (λ (d : Sight). child_of d part) directory part
