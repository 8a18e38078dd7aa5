-- The last turn has written all fields.
use Rattle.std.proofs.Common.{arith}
use Rattle.fuse_head.specs.Little.{u16_bytes}
use Rattle.fuse_replies.specs.Layouts.{u16s}
use Rattle.fuse_replies.proofs.FieldLemmas.{fields_written}
use Rattle.fuse_replies.proofs.fields.write_u16s.Goals as goal

pub returns : goal.returns
unfolding u16s
returns c =
    fields_written u16_bytes 2 c.args.place c.loop-field.place c.loop-field.field-index c.args.fields.now c.args.out.now c.loop-field.out (omega (arith, c.loop-field-test.false, c.loop-field.auto.field-index-end)) c.loop-field.invariant.0
    c.loop-field.invariant.2
