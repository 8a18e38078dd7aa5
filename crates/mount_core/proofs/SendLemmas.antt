-- What refuses a request is an errno that a reply may tell.
use Rattle.std.proofs.Common.{◌≡◌, ◌≤◌, ◌+◌, ℕ, Bool, true, false, List, Option, Some, None, sym, subst, arith, nat_eq, nat_le, nat_lt, length, option_and_then}
use Rattle.std.specs.Prelude.{not, ◌&&◌, ◌||◌, if◌then◌else◌}
use Rattle.std.specs.Option.{option_map_or}
use Rattle.std.specs.Str.{is_utf8}
use Rattle.fuse_replies.specs.Errno.{ebadf, ebusy, efbig, einval, enametoolong, enosys, enospc, enotdir, eproto, estale}
use Rattle.fuse_requests.specs.declared.request.Request.{Request}
use Rattle.fuse_requests.specs.declared.request.Request.TheVariants.{BatchForget, Create, Destroy, Flush, Forget, Fsync, Fsyncdir, Getattr, Init, Interrupt, Lookup, Mkdir, Mknod, Opendir, Opening, Read, Readdir, Readlink, Release, Releasedir, Rename, Rename2, Rmdir, Setattr, Statfs, Symlink, Unknown, Unlink, Write}
use Rattle.handle_table.specs.Handles.{Opened}
use Rattle.bucket_api.specs.Operation.{max_content}
use Rattle.mount_laws.specs.Renames.{renamed}
use Rattle.mount_model.specs.declared.config.Config.{Config}
use Rattle.mount_rules.specs.Dispatch.{early, is_among, is_full, is_init, is_silent, refused_at_take, rules_of, served_opcodes, silent_opcodes, view_in}
use Rattle.mount_rules.specs.Guards.{entries_opened, errno_of_fault, in_directory, file_opened, is_directory, longest_read, on_file, on_live, on_open_directory, on_open_file, part_refusal, size_refusal}
use Rattle.mount_rules.specs.Mount.{MountModel}
use Rattle.mount_rules.specs.Requests.Create as create
use Rattle.mount_rules.specs.Requests.Mknod as mknod
use Rattle.mount_rules.specs.Requests.Readlink as readlink
use Rattle.mount_rules.specs.Requests.Rename as rename
use Rattle.mount_rules.specs.Requests.Rename.{Names}
use Rattle.mount_rules.specs.Requests.Setattr as setattr
use Rattle.mount_rules.specs.Requests.Setattr.{Asked}
use Rattle.mount_rules.specs.Requests.Symlink as symlink
use Rattle.mount_rules.specs.Requests.Write as write
use Rattle.mount_rules.specs.View.{Sight, View, child_of}
use Rattle.object_names.specs.Components.{name_fault}
use Rattle.object_names.specs.Paths.{bare_name, path_max}
use Rattle.object_names.specs.declared.component.NameFault.{NameFault}
use Rattle.object_names.specs.declared.component.NameFault.TheVariants.{TooLong}
use Rattle.object_names.specs.declared.shown.DirItem.{DirItem}
use Rattle.object_names.specs.declared.shown.NodeKind.{NodeKind}
use Rattle.object_names.specs.declared.shown.NodeKind.TheVariants.{Dir, File, Symlink}

-- no error, or one that a reply may tell
abbrev IsTold : Option ℕ → Type 0
IsTold None = Unit {0}
IsTold (Some errno) = (1 ≤ errno) × (errno ≤ 511)

in_directory-told : (seen : Option Sight) (next : Sight → Option ℕ) → ((sight : Sight) → IsTold (next sight)) → IsTold (in_directory seen next)
in_directory-told None next tells = (omega arith, omega arith)
in_directory-told (Some sight) next tells = by_live sight.live
  where
    by_kind : (directory : Bool) → IsTold (if directory then next sight else Some enotdir)
    by_kind true = tells sight
    by_kind false = (omega arith, omega arith)

    by_live : (live : Bool) → IsTold (if live then (if is_directory sight.kind then next sight else Some enotdir) else Some estale)
    by_live true = by_kind (is_directory sight.kind)
    by_live false = (omega arith, omega arith)

part_refusal-told : (part : List ℕ) (directory : Sight) → IsTold (part_refusal part directory)
part_refusal-told part directory = by (name_fault part)
  where
    by_length : (short : Bool) → IsTold (if short then None else Some enametoolong)
    by_length true = tt
    by_length false = (omega arith, omega arith)

    by_fault : (fault : NameFault) → IsTold (Some (errno_of_fault fault))
    by_fault TooLong = (omega arith, omega arith)
    by_fault _ = (omega arith, omega arith)

    by : (fault : Option NameFault) → IsTold (option_map_or (λ f. Some (errno_of_fault f)) fault (if nat_le (length (child_of directory part)) path_max then None else Some enametoolong))
    by None = by_length (nat_le (length (child_of directory part)) path_max)
    by (Some fault) = by_fault fault

on_open_directory-told : (node : ℕ) (handle : Option Opened) (next : List DirItem → Option ℕ) → ((items : List DirItem) → IsTold (next items)) → IsTold (on_open_directory node handle next)
on_open_directory-told node handle next tells = by (option_and_then (entries_opened node) handle)
  where
    by : (opened : Option (List DirItem)) → IsTold (option_map_or next opened (Some ebadf))
    by None = (omega arith, omega arith)
    by (Some items) = tells items

on_live-told : (seen : Option Sight) (next : Sight → Option ℕ) → ((sight : Sight) → IsTold (next sight)) → IsTold (on_live seen next)
on_live-told None next tells = (omega arith, omega arith)
on_live-told (Some sight) next tells = by sight.live
  where
    by : (live : Bool) → IsTold (if live then next sight else Some estale)
    by true = tells sight
    by false = (omega arith, omega arith)

on_file-told : (kind : NodeKind) (next : Option ℕ) → IsTold next → IsTold (on_file kind next)
on_file-told Dir next tells = (omega arith, omega arith)
on_file-told Symlink next tells = (omega arith, omega arith)
on_file-told File next tells = tells

on_open_file-told : (node : ℕ) (view : View) (next : Sight → Option ℕ) → ((sight : Sight) → IsTold (next sight)) → IsTold (on_open_file node view next)
on_open_file-told node view next tells = by (file_opened node view)
  where
    by : (seen : Option Sight) → IsTold (option_map_or next seen (Some ebadf))
    by None = (omega arith, omega arith)
    by (Some sight) = tells sight

size-told : (small : Bool) → IsTold (if small then None else Some einval)
size-told true = tt
size-told false = (omega arith, omega arith)

unread-told : (silent served : Bool) → IsTold (if silent then None else if served then Some einval else Some enosys)
unread-told true served = tt
unread-told false true = (omega arith, omega arith)
unread-told false false = (omega arith, omega arith)

-- a place behind the longest content, and more bytes than a WRITE may have
write-told : (first count : ℕ) → IsTold (write.limits_refusal first count)
write-told first count = by (nat_le count write.longest_write) (nat_le (first + count) max_content)
  where
    by : (few inside : Bool) → IsTold (if few then (if inside then None else Some efbig) else Some einval)
    by true true = tt
    by true false = (omega arith, omega arith)
    by false inside = (omega arith, omega arith)

-- of two refusals the first comes
first-told : (first next : Option ℕ) → IsTold first → IsTold next → IsTold (option_map_or Some first next)
first-told None next f n = n
first-told (Some errno) next f n = f

-- a type of node that is no regular file
mknod-told : (regular : Bool) (next : Option ℕ) → IsTold next → IsTold (if regular then next else Some enosys)
mknod-told true next tells = tells
mknod-told false next tells = (omega arith, omega arith)

-- a target that is no text, or too long
target-told : (target : List ℕ) → IsTold (symlink.target_refusal target)
target-told target = by (nat_eq (length target) 0 || not (is_utf8 target)) (nat_lt symlink.longest_target (length target))
  where
    by : (bad long : Bool) → IsTold (if bad then Some einval else if long then Some enametoolong else None)
    by true long = (omega arith, omega arith)
    by false true = (omega arith, omega arith)
    by false false = tt

symlink-told : (name target : List ℕ) (view : View) → IsTold (symlink.refusal name target view)
symlink-told name target view =
    in_directory-told view.node (symlink.texts_refusal name target)
    (λ directory. first-told (part_refusal name directory) (symlink.target_refusal target) (part_refusal-told name directory) (target-told target))

-- a node that is no symlink
readlink-told : (kind : NodeKind) → IsTold (readlink.kind_refusal kind)
readlink-told Symlink = tt
readlink-told Dir = (omega arith, omega arith)
readlink-told File = (omega arith, omega arith)

-- a directory that is none, a name, and staged content
rename-told : (names : Names) (view : View) → IsTold (rename.refusal names view)
rename-told names view = on_live-told view.node _ (λ old. on_live-told view.directory (rename.kinds_refusal names view old) (λ new. kinds (is_directory old.kind && is_directory new.kind) old new))
  where
    busy : (staged : Bool) → IsTold (if staged then Some ebusy else None)
    busy true = (omega arith, omega arith)
    busy false = tt

    told : (old new : Sight) → IsTold (rename.names_refusal names view old new)
    told old new =
        first-told (part_refusal (bare_name names.name) old) _ (part_refusal-told (bare_name names.name) old)
        (first-told (part_refusal names.newname new) (rename.busy_refusal names view) (part_refusal-told names.newname new) (busy (rename.is_staged view && not (rename.is_same names view))))

    kinds : (directories : Bool) (old new : Sight) → IsTold (if directories then rename.names_refusal names view old new else Some enotdir)
    kinds true old new = told old new
    kinds false old new = (omega arith, omega arith)

rename2-told : (none : Bool) (next : Option ℕ) → IsTold next → IsTold (if none then next else Some einval)
rename2-told true next tells = tells
rename2-told false next tells = (omega arith, omega arith)

-- a length and a time that no file can have, and a length of what is no file
setattr-told : (asked : Asked) (kind : NodeKind) → IsTold (setattr.kind_refusal asked kind)
setattr-told asked kind = by (setattr.sets_size asked) (first-told (setattr.time_refusal asked kind) (setattr.size_refusal asked) (time (setattr.is_file kind && setattr.sets_time asked && not (setattr.sets_now asked) && setattr.is_out_of_range asked)) (size (setattr.sets_size asked && not (nat_le asked.size max_content))))
  where
    time : (refused : Bool) → IsTold (if refused then Some einval else None)
    time true = (omega arith, omega arith)
    time false = tt

    size : (refused : Bool) → IsTold (if refused then Some efbig else None)
    size true = (omega arith, omega arith)
    size false = tt

    by : (sized : Bool) → IsTold (setattr.limits_refusal asked kind) → IsTold (if sized then on_file kind (setattr.limits_refusal asked kind) else setattr.limits_refusal asked kind)
    by true tells = on_file-told kind (setattr.limits_refusal asked kind) tells
    by false tells = tells

refusal-told : (request : Request) (view : View) → IsTold ((rules_of request).refusal view)
refusal-told (Lookup node name) view = in_directory-told view.node (part_refusal (bare_name name)) (part_refusal-told (bare_name name))
refusal-told (Create node name) view = in_directory-told view.node (part_refusal name) (part_refusal-told name)
refusal-told (Mknod node mode name) view =
    mknod-told (mknod.is_regular mode) (create.refusal name view) (in_directory-told view.node (part_refusal name) (part_refusal-told name))
refusal-told (Symlink node name target) view = symlink-told name target view
refusal-told (Readlink node) view = on_live-told view.node (λ sight. readlink.kind_refusal sight.kind) (λ sight. readlink-told sight.kind)
refusal-told (Mkdir node name) view = in_directory-told view.node (part_refusal name) (part_refusal-told name)
refusal-told (Rmdir node name) view = in_directory-told view.node (part_refusal name) (part_refusal-told name)
refusal-told (Unlink node name) view = in_directory-told view.node (part_refusal (bare_name name)) (part_refusal-told (bare_name name))
refusal-told (Rename node newdir name newname) view = rename-told (renamed newdir name newname) view
refusal-told (Rename2 node newdir flags name newname) view =
    rename2-told (nat_eq flags 0) (rename.refusal (renamed newdir name newname) view) (rename-told (renamed newdir name newname) view)
refusal-told (Opendir node) view = in_directory-told view.node (λ directory. None) (λ directory. tt)
refusal-told (Readdir node fh first size) view =
    on_open_directory-told node view.handle (λ entries. size_refusal size) (λ entries. size-told (nat_le size longest_read))
refusal-told (Getattr node) view = on_live-told view.node (λ sight. None) (λ sight. tt)
refusal-told (Opening node flags) view = on_live-told view.node (λ sight. on_file sight.kind None) (λ sight. on_file-told sight.kind None tt)
refusal-told (Read node fh first size) view = on_open_file-told node view (λ file. size_refusal size) (λ file. size-told (nat_le size longest_read))
refusal-told (Write node fh first bytes) view = on_open_file-told node view (λ file. write.limits_refusal first (length bytes)) (λ file. write-told first (length bytes))
refusal-told (Flush node fh) view = on_open_file-told node view (λ file. None) (λ file. tt)
refusal-told (Fsync node fh) view = on_open_file-told node view (λ file. None) (λ file. tt)
refusal-told (Setattr node valid size mtime nanos) view =
    let asked : Asked = record { valid = valid; size = size; seconds = mtime; nanos = nanos } in
    on_live-told view.node (λ sight. setattr.kind_refusal asked sight.kind) (λ sight. setattr-told asked sight.kind)
refusal-told (Release node fh) view = on_open_file-told node view (λ file. None) (λ file. tt)
refusal-told (Releasedir node fh) view = on_open_directory-told node view.handle (λ entries. None) (λ entries. tt)
refusal-told (Fsyncdir node fh) view = on_open_directory-told node view.handle (λ entries. None) (λ entries. tt)
refusal-told (Init major minor readahead flags) view = tt
refusal-told Statfs view = tt
refusal-told Destroy view = tt
refusal-told (Forget node count) view = tt
refusal-told (BatchForget pairs) view = tt
refusal-told Interrupt view = tt
refusal-told (Unknown opcode) view = unread-told (is_among silent_opcodes opcode) (is_among served_opcodes opcode)

-- what refuses a request at its take
pub taken-told : (config : Config) (mount : MountModel) (request : Request) (errno : ℕ) → Some errno ≡ refused_at_take config mount request → (1 ≤ errno) × (errno ≤ 511)
taken-told config mount request errno is = subst IsTold (sym is) (by (early mount request) (first (not mount.negotiated && not (is_silent request) && not (is_init request))))
  where
    first : (waits : Bool) → IsTold (if waits then Some eproto else (rules_of request).refusal (view_in mount request))
    first true = (omega arith, omega arith)
    first false = refusal-told request (view_in mount request)

    full : (b : Bool) → IsTold (if b then Some enospc else None)
    full true = (omega arith, omega arith)
    full false = tt

    by : (refused : Option ℕ) → IsTold refused → IsTold (option_map_or Some refused (if is_full config mount request then Some enospc else None))
    by None told = full (is_full config mount request)
    by (Some e) told = told
