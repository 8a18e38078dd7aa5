-- The front is the same of all; the attr follows.
use Rattle.std.proofs.Common.{◌++◌, ◌∷◌, [], ap, length, refl, arith}
use Rattle.fuse_head.specs.Little.{u32_bytes, u64_bytes}
use Rattle.fuse_replies.specs.Layouts.{attr_out_text, attr_text, u32s, u64s}
use Rattle.fuse_replies.specs.Replies.{IsAttr}
use Rattle.fuse_replies.proofs.ReadLemmas.{reads_behind, reads_none, reads_not_behind, untrue}
use Rattle.fuse_replies.proofs.TextLemmas.{length-attr_out_text}
use Rattle.fuse_replies.proofs.bodies.attr_out_of.Goals as goal

pub returns-then-body-ne104 : goal.returns-then-body-ne104
returns-then-body-ne104 c = reads_none attr_out_text IsAttr c.args.body.now (λ a fits is. omega (arith, ap length is, length-attr_out_text a))

pub returns-then-not-are_fields : goal.returns-then-not-are_fields
unfolding attr_out_text u64s u32s u64_bytes u32_bytes
returns-then-not-are_fields c =
    reads_not_behind attr_out_text attr_text IsAttr (u64s (0 ∷ []) ++ u32s (0 ∷ 0 ∷ [])) (λ a. refl) c.args.body.now c.split_at.result.0.now c.split_at.ensures.front (λ is. untrue (c.if-not-are_fields.ensures.1 is))

pub returns : goal.returns
unfolding attr_out_text u64s u32s u64_bytes u32_bytes
returns c =
    reads_behind attr_out_text attr_text IsAttr (u64s (0 ∷ []) ++ u32s (0 ∷ 0 ∷ [])) (λ a. refl) c.args.body.now c.split_at.result.0.now c.split_at.result.1.now c.split_at.ensures.front c.split_at.ensures.back (c.if-not-are_fields.ensures.0 refl) c.attr_of.result c.attr_of.ensures
