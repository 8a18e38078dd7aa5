-- The count of pairs fits, since the frame does.
use Rattle.std.proofs.Common.{◌≤◌, length, subst, arith}
use Rattle.fuse_requests.specs.declared.request.Request.{Request}
use Rattle.fuse_requests.specs.Text.{spelling}
use Rattle.fuse_requests.proofs.PairTexts.{length-pairs_text}
use Rattle.fuse_requests.proofs.fixed.push_fixed.Goals as goal

pub overflow_cast-count : goal.overflow_cast-count
overflow_cast-count c =
    let room = subst (λ (request : Request). length (spelling request).tail ≤ 135168) c.in-BatchForget.is c.requires in
    omega (arith, c.len-count.ensures, room, length-pairs_text c.in-BatchForget.pairs.items)
