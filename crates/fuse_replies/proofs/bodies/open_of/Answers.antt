-- The number that is read is that of each text that the bytes are.
use Rattle.std.proofs.Common.{◌<◌, ◌^◌, ap, length, refl, arith}
use Rattle.fuse_head.specs.Little.{u64_at}
use Rattle.fuse_replies.specs.Layouts.{open_text}
use Rattle.fuse_replies.proofs.ReadLemmas.{fh_at-text, reads_none, reads_other, reads_some, untrue}
use Rattle.fuse_replies.proofs.TextLemmas.{length-open_text}
use Rattle.fuse_replies.proofs.bodies.open_of.Goals as goal

pub returns-then-body-ne16 : goal.returns-then-body-ne16
returns-then-body-ne16 c = reads_none open_text (λ fh. fh < 2 ^ 64) c.args.body.now (λ x x_fits is. omega (arith, ap length is, length-open_text x))

pub returns-then-not-are_fields : goal.returns-then-not-are_fields
unfolding open_text
returns-then-not-are_fields c =
    reads_other open_text (λ fh. fh < 2 ^ 64) (λ bytes. u64_at bytes 0) c.args.body.now c.u64_at-fh.result fh_at-text c.u64_at-fh.ensures (λ is. untrue (c.if-not-are_fields.ensures.1 is))

pub returns : goal.returns
unfolding open_text
returns c =
    reads_some open_text (λ fh. fh < 2 ^ 64) (λ bytes. u64_at bytes 0) c.args.body.now c.u64_at-fh.result fh_at-text c.u64_at-fh.ensures c.u64_at-fh.type_inv (c.if-not-are_fields.ensures.0 refl)
