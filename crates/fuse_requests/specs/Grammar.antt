-- What a request frame says: the wire's table from opcodes to layouts, and what a frame asks by it. After
-- enum fuse_opcode of Linux fuse.h 7.31.
use Rattle.std.specs.Prelude.{◌==◌, ℕ, List, Option, None, Some, Result, Ok, Err, drop, if◌then◌else◌}
use Rattle.fuse_head.specs.Head.{in_head}
use Rattle.fuse_requests.specs.declared.fault.BodyFault.{BodyFault}
use Rattle.fuse_requests.specs.declared.request.Request.{Request}
use Rattle.fuse_requests.specs.declared.request.Request.TheVariants.{Lookup, Symlink, Mknod, Mkdir, Unlink, Rmdir, Rename, Write, Create, BatchForget, Rename2, Unknown}
use Rattle.fuse_requests.specs.Layout.{Layout, read_body}
use Rattle.fuse_requests.specs.Naming.{lookup, symlink, mknod, mkdir, unlink, rmdir, rename, create, rename2}
use Rattle.fuse_requests.specs.Nodes.{getattr, setattr, readlink, opening, reading, writing, release, fsync, flush, opendir, readdir, releasedir, fsyncdir}
use Rattle.fuse_requests.specs.Mounts.{forget, statfs, init, interrupt, destroy, batch_forget}
use Rattle.fuse_requests.specs.Opcodes as opcodes

-- the layout of a request that carries names, or the other
abbrev pub naming : ℕ → ℕ → Option Layout → Option Layout
naming opcode node other =
    if opcode == opcodes.lookup then Some (lookup node)
    else if opcode == opcodes.symlink then Some (symlink node)
    else if opcode == opcodes.mknod then Some (mknod node)
    else if opcode == opcodes.mkdir then Some (mkdir node)
    else if opcode == opcodes.unlink then Some (unlink node)
    else if opcode == opcodes.rmdir then Some (rmdir node)
    else if opcode == opcodes.rename then Some (rename node)
    else if opcode == opcodes.create then Some (create node)
    else if opcode == opcodes.rename2 then Some (rename2 node)
    else other

-- the layout of a request that speaks of a node or a handle, or the other
abbrev pub of_node : ℕ → ℕ → Option Layout → Option Layout
of_node opcode node other =
    if opcode == opcodes.getattr then Some (getattr node)
    else if opcode == opcodes.setattr then Some (setattr node)
    else if opcode == opcodes.readlink then Some (readlink node)
    else if opcode == opcodes.opening then Some (opening node)
    else if opcode == opcodes.reading then Some (reading node)
    else if opcode == opcodes.writing then Some (writing node)
    else if opcode == opcodes.release then Some (release node)
    else if opcode == opcodes.fsync then Some (fsync node)
    else if opcode == opcodes.flush then Some (flush node)
    else if opcode == opcodes.opendir then Some (opendir node)
    else if opcode == opcodes.readdir then Some (readdir node)
    else if opcode == opcodes.releasedir then Some (releasedir node)
    else if opcode == opcodes.fsyncdir then Some (fsyncdir node)
    else other

-- the layout of a request that speaks of the whole mount, or takes look-ups back
abbrev pub of_mount : ℕ → ℕ → Option Layout
of_mount opcode node =
    if opcode == opcodes.forget then Some (forget node)
    else if opcode == opcodes.statfs then Some statfs
    else if opcode == opcodes.init then Some init
    else if opcode == opcodes.interrupt then Some interrupt
    else if opcode == opcodes.destroy then Some destroy
    else if opcode == opcodes.batch_forget then Some batch_forget
    else None

-- the table: the layout of an opcode's bodies, for a head's node; none where the body isn't read
abbrev pub layout_of : ℕ → ℕ → Option Layout
layout_of opcode node = naming opcode node (of_node opcode node (of_mount opcode node))

-- the request of a body whose opcode has this layout, or its first fault
abbrev pub read_as : ℕ → Option Layout → List ℕ → Result Request BodyFault
read_as opcode None body = Ok (Unknown opcode)
read_as opcode (Some layout) body = read_body layout body

-- the request of a whole frame, or the first fault of its body: the head has 40 bytes
unfoldable pub read_frame : List ℕ → Result Request BodyFault
read_frame frame = read_as (in_head frame).opcode (layout_of (in_head frame).opcode (in_head frame).node) (drop 40 frame)

-- the request that was read, or that of an opcode whose body was refused
abbrev pub or_unknown : ℕ → Result Request BodyFault → Request
or_unknown opcode (Ok request) = request
or_unknown opcode (Err _) = Unknown opcode

-- what a whole frame asks: the request that the grammar reads, or an unknown one of its opcode where the
-- grammar refuses the body
abbrev pub request_of : List ℕ → Request
request_of frame = or_unknown (in_head frame).opcode (read_frame frame)

-- a request without the room that its pairs may have for more
abbrev pub without_spare : Request → Request
without_spare (BatchForget pairs) = BatchForget (record pairs { spare = 0 })
without_spare request = request

-- it has a name, a content or pairs, which are values of their own
abbrev pub HasPayload : Request → Type 0
HasPayload (Lookup node name) = Unit {0}
HasPayload (Symlink node name target) = Unit {0}
HasPayload (Mknod node mode name) = Unit {0}
HasPayload (Mkdir node name) = Unit {0}
HasPayload (Unlink node name) = Unit {0}
HasPayload (Rmdir node name) = Unit {0}
HasPayload (Rename node newdir name newname) = Unit {0}
HasPayload (Write node fh first content) = Unit {0}
HasPayload (Create node name) = Unit {0}
HasPayload (BatchForget pairs) = Unit {0}
HasPayload (Rename2 node newdir flags name newname) = Unit {0}
HasPayload request = ⊥
