-- The last turn has written all fields.
use Rattle.std.proofs.Common.{arith}
use Rattle.fuse_head.specs.Little.{u64_bytes}
use Rattle.fuse_replies.specs.Layouts.{u64s}
use Rattle.fuse_replies.proofs.FieldLemmas.{fields_written}
use Rattle.fuse_replies.proofs.fields.write_u64s.Goals as goal

pub returns : goal.returns
unfolding u64s
returns c =
    fields_written u64_bytes 8 c.args.place c.loop-field.place c.loop-field.field-index c.args.fields.now c.args.out.now c.loop-field.out (omega (arith, c.loop-field-test.false, c.loop-field.auto.field-index-end)) c.loop-field.invariant.0
    c.loop-field.invariant.2
