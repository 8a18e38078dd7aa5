-- What the writer's own functions speak of: fields of fixed parts as the code has them, and which requests have
-- which kind of fixed part.
use Rattle.std.specs.Prelude.{List, map}
use Rattle.fuse_requests.specs.declared.fields.Field as code
use Rattle.fuse_requests.specs.declared.fields.Field.TheVariants.{Word, Long}
use Rattle.fuse_requests.specs.declared.request.Request.{Request}
use Rattle.fuse_requests.specs.declared.request.Request.TheVariants.{Forget, Getattr, Setattr, Mknod, Mkdir, Rename, Opening, Init, Opendir, Create, Interrupt, BatchForget, Rename2}
use Rattle.fuse_requests.specs.Layout.{Field, w32, w64}

abbrev pub field_of : code.Field → Field
field_of (Word n) = w32 n
field_of (Long n) = w64 n

abbrev pub fields_of : List code.Field → List Field
fields_of fields = map field_of fields

-- a request whose fixed part, where it has one, tells of a node or a handle and has no names behind it
abbrev pub FixedOfNode : Request → Type 0
FixedOfNode (Forget node count) = ⊥
FixedOfNode (Mknod node mode name) = ⊥
FixedOfNode (Mkdir node name) = ⊥
FixedOfNode (Rename node newdir name newname) = ⊥
FixedOfNode (Init major minor readahead flags) = ⊥
FixedOfNode (Create node name) = ⊥
FixedOfNode Interrupt = ⊥
FixedOfNode (BatchForget pairs) = ⊥
FixedOfNode (Rename2 node newdir flags name newname) = ⊥
FixedOfNode _ = Unit {0}

-- one whose fixed part begins with a handle
abbrev pub FixedOfHandle : Request → Type 0
FixedOfHandle (Getattr node) = ⊥
FixedOfHandle (Setattr node valid size mtime nanos) = ⊥
FixedOfHandle (Opening node flags) = ⊥
FixedOfHandle (Opendir node) = ⊥
FixedOfHandle request = FixedOfNode request
