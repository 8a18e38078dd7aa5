-- The fields that are read are those of each front whose text the bytes are.
use Rattle.std.proofs.Common.{◌≡◌, ap, length, refl, arith}
use Rattle.fuse_replies.specs.declared.dirents.DirentFront.{DirentFront}
use Rattle.fuse_replies.specs.Reading.{front_at, front_text, IsFront}
use Rattle.fuse_replies.proofs.DirentLemmas.{front_at-text, length-front_text}
use Rattle.fuse_replies.proofs.ReadLemmas.{reads_none, reads_other, reads_some, untrue}
use Rattle.fuse_replies.proofs.dirents.front_of.Goals as goal

pub returns-then-bytes-ne24 : goal.returns-then-bytes-ne24
returns-then-bytes-ne24 c = reads_none front_text IsFront c.args.bytes.now (λ f fits is. omega (arith, ap length is, length-front_text f))

pub returns-then-not-are_fields : goal.returns-then-not-are_fields
returns-then-not-are_fields c =
    let f : DirentFront = record { off = c.u64_at-off.result; namelen = c.u32_at-namelen.result; kind = c.u32_at-kind.result } in
    let f-is : f ≡ front_at c.args.bytes.now = rw (c.u64_at-off.ensures, c.u32_at-namelen.ensures, c.u32_at-kind.ensures) refl in
    reads_other front_text IsFront front_at c.args.bytes.now f front_at-text f-is (λ is. untrue (c.if-not-are_fields.ensures.1 is))

pub returns : goal.returns
returns c =
    let f : DirentFront = record { off = c.u64_at-off.result; namelen = c.u32_at-namelen.result; kind = c.u32_at-kind.result } in
    let f-is : f ≡ front_at c.args.bytes.now = rw (c.u64_at-off.ensures, c.u32_at-namelen.ensures, c.u32_at-kind.ensures) refl in
    reads_some front_text IsFront front_at c.args.bytes.now f front_at-text f-is (record { off = c.u64_at-off.type_inv; namelen = c.u32_at-namelen.type_inv; kind = c.u32_at-kind.type_inv }) (c.if-not-are_fields.ensures.0 refl)
