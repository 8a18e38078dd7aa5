-- Each turn takes the bytes of one field.
use Rattle.std.proofs.Common.{Some, None}
use Rattle.std.proofs.lemmas.Bool.Decides.{Decides-eqb}
use Rattle.std.proofs.lemmas.Slice.Eq.{strip_prefix_is}
use Rattle.fuse_head.specs.Little.{u16_bytes}
use Rattle.fuse_replies.specs.Layouts.{u16s}
use Rattle.fuse_replies.proofs.StripLemmas.{strip_all, strip_more, strip_none}
use Rattle.fuse_replies.proofs.fields.strip_u16s.Goals as goal

pub returns-in_err-rest : goal.returns-in_err-rest
unfolding u16s u16_bytes
returns-in_err-rest c =
    rw c.from_residual.ensures (strip_none u16_bytes c.args.fields.now c.loop-field.field-index c.args.bytes.now c.loop-field.rest.now c.to_le_bytes.result c.loop-field-test.true c.loop-field.invariant c.to_le_bytes.ensures
    (strip_prefix_is Decides-eqb c.loop-field.rest.now c.to_le_bytes.result None c.in_err-rest.ensures.cases))

pub loop-field-preserved : goal.loop-field-preserved
unfolding u16_bytes
loop-field-preserved c =
    strip_more u16_bytes c.args.fields.now c.loop-field.field-index c.args.bytes.now c.loop-field.rest.now c.to_le_bytes.result c.in_ok-rest.rest.now c.loop-field-test.true c.loop-field.invariant c.to_le_bytes.ensures
    (strip_prefix_is Decides-eqb c.loop-field.rest.now c.to_le_bytes.result (Some c.in_ok-rest.rest) c.in_ok-rest.ensures.cases)

pub returns : goal.returns
unfolding u16s
returns c = strip_all u16_bytes c.args.fields.now c.loop-field.field-index c.args.bytes.now c.loop-field.rest.now c.loop-field-test.false c.loop-field.invariant
