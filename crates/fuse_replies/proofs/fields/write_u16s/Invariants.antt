-- What stands before the place are the bytes that stood before the fields, and the fields so far.
use Rattle.std.proofs.Common.{◌≡◌, ◌+◌, ◌*◌, ◌++◌, length, take}
use Rattle.std.specs.List.{flat_map}
use Rattle.fuse_head.specs.Little.{u16_bytes}
use Rattle.fuse_replies.proofs.fields.write_u16s.Given as goal

abbrev pub invariant-loop-field : goal.invariant-loop-field
invariant-loop-field l =
    (l.place ≡ l.initial.place + 2 * l.field-index) × (length l.out ≡ length l.initial.out)
    × (take l.place l.out ≡ take l.initial.place l.initial.out ++ flat_map u16_bytes (take l.field-index l.fields))
