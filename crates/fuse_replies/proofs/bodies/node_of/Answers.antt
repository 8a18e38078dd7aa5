-- The number that is read is that of each text that the bytes are.
use Rattle.std.proofs.Common.{◌<◌, ◌^◌, ap, length, refl, arith}
use Rattle.fuse_head.specs.Little.{u64_at}
use Rattle.fuse_replies.specs.Reading.{node_text}
use Rattle.fuse_replies.proofs.ReadLemmas.{length-node_text, node_at-text, reads_none, reads_other, reads_some, untrue}
use Rattle.fuse_replies.proofs.bodies.node_of.Goals as goal

pub returns-then-front-ne40 : goal.returns-then-front-ne40
returns-then-front-ne40 c = reads_none node_text (λ node. node < 2 ^ 64) c.args.front.now (λ x x_fits is. omega (arith, ap length is, length-node_text x))

pub returns-then-not-are_fields : goal.returns-then-not-are_fields
returns-then-not-are_fields c =
    reads_other node_text (λ node. node < 2 ^ 64) (λ bytes. u64_at bytes 0) c.args.front.now c.u64_at-node.result node_at-text c.u64_at-node.ensures (λ is. untrue (c.if-not-are_fields.ensures.1 is))

pub returns : goal.returns
returns c =
    reads_some node_text (λ node. node < 2 ^ 64) (λ bytes. u64_at bytes 0) c.args.front.now c.u64_at-node.result node_at-text c.u64_at-node.ensures c.u64_at-node.type_inv (c.if-not-are_fields.ensures.0 refl)
