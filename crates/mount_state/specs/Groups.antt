-- The requests in three groups, by what their ends work on.
use Rattle.fuse_requests.specs.declared.request.Request.{Request}
use Rattle.fuse_requests.specs.declared.request.Request.TheVariants.{BatchForget, Create, Destroy, Flush, Forget, Fsync, Fsyncdir, Getattr, Init, Interrupt, Lookup, Mkdir, Mknod, Opendir, Opening, Read, Readdir, Readlink, Release, Releasedir, Rename, Rename2, Rmdir, Setattr, Statfs, Symlink, Unknown, Unlink, Write}
use Rattle.mount_state.specs.declared.groups.Group.{Group}
use Rattle.mount_state.specs.declared.groups.Group.TheVariants as group

-- it names an entry of a directory
abbrev pub IsNaming : Request → Type 0
IsNaming (Lookup node name) = Unit {0}
IsNaming (Create node name) = Unit {0}
IsNaming (Mknod node mode name) = Unit {0}
IsNaming (Symlink node name target) = Unit {0}
IsNaming (Mkdir node name) = Unit {0}
IsNaming (Unlink node name) = Unit {0}
IsNaming (Rmdir node name) = Unit {0}
IsNaming (Rename node newdir name newname) = Unit {0}
IsNaming (Rename2 node newdir flags name newname) = Unit {0}
IsNaming request = ⊥

-- it shows a node, opens it, or reads or writes its content
abbrev pub IsOnNode : Request → Type 0
IsOnNode (Readlink node) = Unit {0}
IsOnNode (Readdir node fh first size) = Unit {0}
IsOnNode (Opendir node) = Unit {0}
IsOnNode (Getattr node) = Unit {0}
IsOnNode (Setattr node valid size mtime nanos) = Unit {0}
IsOnNode (Opening node flags) = Unit {0}
IsOnNode (Read node fh first size) = Unit {0}
IsOnNode (Write node fh first content) = Unit {0}
IsOnNode (Flush node fh) = Unit {0}
IsOnNode (Fsync node fh) = Unit {0}
IsOnNode (Release node fh) = Unit {0}
IsOnNode request = ⊥

-- the mount answers it alone
abbrev pub IsOnMount : Request → Type 0
IsOnMount (Releasedir node fh) = Unit {0}
IsOnMount (Fsyncdir node fh) = Unit {0}
IsOnMount Statfs = Unit {0}
IsOnMount (Init major minor readahead flags) = Unit {0}
IsOnMount (Forget node count) = Unit {0}
IsOnMount (BatchForget pairs) = Unit {0}
IsOnMount Destroy = Unit {0}
IsOnMount Interrupt = Unit {0}
IsOnMount (Unknown opcode) = Unit {0}
IsOnMount request = ⊥

abbrev pub IsIn : Group → Request → Type 0
IsIn group.Entry request = IsNaming request
IsIn group.Node request = IsOnNode request
IsIn group.Mount request = IsOnMount request
