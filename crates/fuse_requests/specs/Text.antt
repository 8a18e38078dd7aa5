-- The text of a request: the frame that asks it. After Linux fuse.h 7.31; fields that a request hasn't, and
-- padding, are zero.
use Rattle.std.specs.Prelude.{◌≡◌, ◌+◌, ◌<◌, ◌≤◌, ◌^◌, ◌++◌, ◌∷◌, [], ℕ, List, None, length, false}
use Rattle.std.specs.List.{flat_map, list_any, AllByRecursion}
use Rattle.fuse_head.specs.Head.{in_head_text, longest_frame}
use Rattle.fuse_head.specs.Little.{u64_bytes}
use Rattle.fuse_head.specs.declared.in_head.InHead.{InHead}
use Rattle.fuse_requests.specs.declared.request.Forgotten.{Forgotten}
use Rattle.fuse_requests.specs.declared.request.Request.{Request}
use Rattle.fuse_requests.specs.declared.request.Request.TheVariants.{Lookup, Forget, Getattr, Setattr, Readlink, Symlink, Mknod, Mkdir, Unlink, Rmdir, Rename, Opening, Read, Write, Statfs, Release, Fsync, Flush, Init, Opendir, Readdir, Releasedir, Fsyncdir, Create, Interrupt, Destroy, BatchForget, Rename2, Unknown}
use Rattle.fuse_requests.specs.Layout.{Field, fields_text}
use Rattle.fuse_requests.specs.Naming.{mknod_in, mkdir_in, rename_in, create_in, rename2_in}
use Rattle.fuse_requests.specs.Nodes.{getattr_in, setattr_in, open_in, read_in, release_in, fsync_in, flush_in}
use Rattle.fuse_requests.specs.Mounts.{forget_in, init_in, interrupt_in, batch_forget_in}
use Rattle.fuse_requests.specs.Opcodes as opcodes
use Rattle.fuse_requests.specs.Parts.{is_zero}
use Rattle.fuse_requests.specs.Grammar.{layout_of}

-- a name ends with a zero byte
abbrev pub name_text : List ℕ → List ℕ
name_text name = name ++ 0 ∷ []

-- struct fuse_forget_one: nodeid, nlookup
abbrev pub pair_text : Forgotten → List ℕ
pair_text pair = u64_bytes pair.node ++ u64_bytes pair.count

abbrev pub pairs_text : List Forgotten → List ℕ
pairs_text pairs = flat_map pair_text pairs

-- How a request is written: its opcode, the head's node, the fixed part of its body, and what stands behind it.
pub record Spelling : Type 0 where
  pub opcode : ℕ
  pub node : ℕ
  pub fixed : List Field
  pub tail : List ℕ

abbrev pub spelled : ℕ → ℕ → List Field → List ℕ → Spelling
spelled opcode node fixed tail = record { opcode = opcode; node = node; fixed = fixed; tail = tail }

-- the table: a request that speaks of no node has 0 in its place
abbrev pub spelling : Request → Spelling
spelling (Lookup node name) = spelled opcodes.lookup node [] (name_text name)
spelling (Forget node count) = spelled opcodes.forget node (forget_in count) []
spelling (Getattr node) = spelled opcodes.getattr node getattr_in []
spelling (Setattr node valid size mtime nanos) = spelled opcodes.setattr node (setattr_in valid size mtime nanos) []
spelling (Readlink node) = spelled opcodes.readlink node [] []
spelling (Symlink node name target) = spelled opcodes.symlink node [] (name_text name ++ name_text target)
spelling (Mknod node mode name) = spelled opcodes.mknod node (mknod_in mode) (name_text name)
spelling (Mkdir node name) = spelled opcodes.mkdir node mkdir_in (name_text name)
spelling (Unlink node name) = spelled opcodes.unlink node [] (name_text name)
spelling (Rmdir node name) = spelled opcodes.rmdir node [] (name_text name)
spelling (Rename node newdir name newname) = spelled opcodes.rename node (rename_in newdir) (name_text name ++ name_text newname)
spelling (Opening node flags) = spelled opcodes.opening node (open_in flags) []
spelling (Read node fh first size) = spelled opcodes.reading node (read_in fh first size) []
spelling (Write node fh first content) = spelled opcodes.writing node (read_in fh first (length content)) content
spelling Statfs = spelled opcodes.statfs 0 [] []
spelling (Release node fh) = spelled opcodes.release node (release_in fh) []
spelling (Fsync node fh) = spelled opcodes.fsync node (fsync_in fh) []
spelling (Flush node fh) = spelled opcodes.flush node (flush_in fh) []
spelling (Init major minor readahead flags) = spelled opcodes.init 0 (init_in major minor readahead flags) []
spelling (Opendir node) = spelled opcodes.opendir node (open_in 0) []
spelling (Readdir node fh first size) = spelled opcodes.readdir node (read_in fh first size) []
spelling (Releasedir node fh) = spelled opcodes.releasedir node (release_in fh) []
spelling (Fsyncdir node fh) = spelled opcodes.fsyncdir node (fsync_in fh) []
spelling (Create node name) = spelled opcodes.create node create_in (name_text name)
spelling Interrupt = spelled opcodes.interrupt 0 interrupt_in []
spelling Destroy = spelled opcodes.destroy 0 [] []
spelling (BatchForget pairs) = spelled opcodes.batch_forget 0 (batch_forget_in (length pairs.items)) (pairs_text pairs.items)
spelling (Rename2 node newdir flags name newname) = spelled opcodes.rename2 node (rename2_in newdir flags) (name_text name ++ name_text newname)
spelling (Unknown opcode) = spelled opcode 0 [] []

-- the text of a request's body
abbrev pub body_text : Request → List ℕ
body_text request = fields_text (spelling request).fixed ++ (spelling request).tail

-- the head of a frame with this length and this unique: no user, group or process is named
abbrev pub head_of : ℕ → ℕ → Request → InHead
head_of len unique request = record {
  len = len;
  opcode = (spelling request).opcode;
  unique = unique;
  node = (spelling request).node;
  uid = 0;
  gid = 0;
  pid = 0;
}

-- the text of a request as a frame, with this unique
unfoldable pub request_text : ℕ → Request → List ℕ
request_text unique request = in_head_text (head_of (40 + length (body_text request)) unique request) ++ body_text request

-- a name holds no zero byte
abbrev pub IsName : List ℕ → Type 0
IsName name = list_any is_zero name ≡ false

-- its names hold no zero byte, and an unknown opcode is none of those whose bodies are read
abbrev pub HasNames : Request → Type 0
HasNames (Lookup node name) = IsName name
HasNames (Symlink node name target) = IsName name × IsName target
HasNames (Mknod node mode name) = IsName name
HasNames (Mkdir node name) = IsName name
HasNames (Unlink node name) = IsName name
HasNames (Rmdir node name) = IsName name
HasNames (Rename node newdir name newname) = IsName name × IsName newname
HasNames (Create node name) = IsName name
HasNames (Rename2 node newdir flags name newname) = IsName name × IsName newname
HasNames (Unknown opcode) = layout_of opcode 0 ≡ None
HasNames _ = Unit {0}

-- what has a text: a request with such names, whose frame isn't longer than the longest
pub record IsWritable (request : Request) : Type 0 where
  pub names : HasNames request
  pub fits : 40 + length (body_text request) ≤ longest_frame

-- a pair's numbers lie in their types
abbrev pub PairFits : Forgotten → Type 0
PairFits pair = (pair.node < 2 ^ 64) × (pair.count < 2 ^ 64)

-- the numbers that a request has beside its node and its pairs lie in their types
abbrev pub FieldsFit : Request → Type 0
FieldsFit (Forget node count) = count < 2 ^ 64
FieldsFit (Setattr node valid size mtime nanos) = (valid < 2 ^ 32) × (size < 2 ^ 64) × (mtime < 2 ^ 64) × (nanos < 2 ^ 32)
FieldsFit (Mknod node mode name) = mode < 2 ^ 32
FieldsFit (Rename node newdir name newname) = newdir < 2 ^ 64
FieldsFit (Opening node flags) = flags < 2 ^ 32
FieldsFit (Read node fh first size) = (fh < 2 ^ 64) × (first < 2 ^ 64) × (size < 2 ^ 32)
FieldsFit (Write node fh first content) = (fh < 2 ^ 64) × (first < 2 ^ 64)
FieldsFit (Release node fh) = fh < 2 ^ 64
FieldsFit (Fsync node fh) = fh < 2 ^ 64
FieldsFit (Flush node fh) = fh < 2 ^ 64
FieldsFit (Init major minor readahead flags) = (major < 2 ^ 32) × (minor < 2 ^ 32) × (readahead < 2 ^ 32) × (flags < 2 ^ 32)
FieldsFit (Readdir node fh first size) = (fh < 2 ^ 64) × (first < 2 ^ 64) × (size < 2 ^ 32)
FieldsFit (Releasedir node fh) = fh < 2 ^ 64
FieldsFit (Fsyncdir node fh) = fh < 2 ^ 64
FieldsFit (Rename2 node newdir flags name newname) = (newdir < 2 ^ 64) × (flags < 2 ^ 32)
FieldsFit _ = Unit {0}

-- the numbers of the pairs of a request lie in their types
abbrev pub PairsFit : Request → Type 0
PairsFit (BatchForget pairs) = AllByRecursion PairFits pairs.items
PairsFit _ = Unit {0}

-- all numbers of a request lie in their types, as those of a value of the program do
pub record InRange (request : Request) : Type 0 where
  pub opcode : (spelling request).opcode < 2 ^ 32
  pub node : (spelling request).node < 2 ^ 64
  pub fields : FieldsFit request
  pub pairs : PairsFit request
