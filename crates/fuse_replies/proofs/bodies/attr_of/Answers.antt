-- The fields that are read are those of each attr whose text the bytes are.
use Rattle.std.proofs.Common.{ap, length, refl, arith}
use Rattle.fuse_replies.specs.Layouts.{attr_text}
use Rattle.fuse_replies.specs.Reading.{attr_at}
use Rattle.fuse_replies.specs.Replies.{IsAttr}
use Rattle.fuse_replies.proofs.ReadLemmas.{attr_at-text, reads_none, reads_other, reads_some, untrue}
use Rattle.fuse_replies.proofs.TextLemmas.{length-attr_text}
use Rattle.fuse_replies.proofs.bodies.attr_of.Goals as goal

pub returns-then-body-ne88 : goal.returns-then-body-ne88
returns-then-body-ne88 c = reads_none attr_text IsAttr c.args.body.now (λ a fits is. omega (arith, ap length is, length-attr_text a))

pub returns-then-not-is_attr : goal.returns-then-not-is_attr
returns-then-not-is_attr c =
    reads_other attr_text IsAttr attr_at c.args.body.now c.attr_fields-attr.result attr_at-text c.attr_fields-attr.ensures.fields (λ is. untrue (c.if-not-is_attr.ensures.1 is))

pub returns : goal.returns
returns c =
    reads_some attr_text IsAttr attr_at c.args.body.now c.attr_fields-attr.result attr_at-text c.attr_fields-attr.ensures.fields c.attr_fields-attr.ensures.in_range (c.if-not-is_attr.ensures.0 refl)
