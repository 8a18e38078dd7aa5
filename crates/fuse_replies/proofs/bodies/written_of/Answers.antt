-- The number that is read is that of each text that the bytes are.
use Rattle.std.proofs.Common.{◌<◌, ◌^◌, ap, length, refl, arith}
use Rattle.fuse_head.specs.Little.{u32_at}
use Rattle.fuse_replies.specs.Layouts.{u64s, written_text}
use Rattle.fuse_replies.proofs.ReadLemmas.{reads_none, reads_other, reads_some, size_at-text, untrue}
use Rattle.fuse_replies.proofs.TextLemmas.{length-written_text}
use Rattle.fuse_replies.proofs.bodies.written_of.Goals as goal

pub returns-then-body-ne8 : goal.returns-then-body-ne8
returns-then-body-ne8 c = reads_none written_text (λ size. size < 2 ^ 32) c.args.body.now (λ x x_fits is. omega (arith, ap length is, length-written_text x))

pub returns-then-not-are_fields : goal.returns-then-not-are_fields
unfolding written_text u64s
returns-then-not-are_fields c =
    reads_other written_text (λ size. size < 2 ^ 32) (λ bytes. u32_at bytes 0) c.args.body.now c.u32_at-size.result size_at-text c.u32_at-size.ensures (λ is. untrue (c.if-not-are_fields.ensures.1 is))

pub returns : goal.returns
unfolding written_text u64s
returns c =
    reads_some written_text (λ size. size < 2 ^ 32) (λ bytes. u32_at bytes 0) c.args.body.now c.u32_at-size.result size_at-text c.u32_at-size.ensures c.u32_at-size.type_inv (c.if-not-are_fields.ensures.0 refl)
