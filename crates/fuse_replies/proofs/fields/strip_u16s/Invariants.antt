-- The bytes are the fields so far and the rest.
use Rattle.std.proofs.Common.{◌≡◌, ◌++◌, take}
use Rattle.std.specs.List.{flat_map}
use Rattle.fuse_head.specs.Little.{u16_bytes}
use Rattle.fuse_replies.proofs.fields.strip_u16s.Given as goal

abbrev pub invariant-loop-field : goal.invariant-loop-field
invariant-loop-field l = l.initial.rest ≡ flat_map u16_bytes (take l.field-index l.fields) ++ l.rest
