-- The frame's length is told at its front once the frame is there.
use Rattle.std.proofs.Common.{◌∙◌, arith}
use Rattle.fuse_requests.proofs.FrameTexts.{length-parts, told_len}
use Rattle.fuse_requests.proofs.writing.frame_of.Goals as goal

pub tell_len-requires-clause-headed : goal.tell_len-requires-clause-headed
tell_len-requires-clause-headed c =
    omega (arith, length-parts c.args.unique c.args.request.now c.push_parts.new.out.items (rw c.in_ok-frame.ensures.items at c.in_ok-push_parts.ensures.ok))

pub tell_len-requires-clause-fits : goal.tell_len-requires-clause-fits
tell_len-requires-clause-fits c =
    omega (arith, c.requires.fits, length-parts c.args.unique c.args.request.now c.push_parts.new.out.items (rw c.in_ok-frame.ensures.items at c.in_ok-push_parts.ensures.ok))

pub returns-clause-ok : goal.returns-clause-ok
returns-clause-ok c =
    c.tell_len.ensures ∙ told_len c.args.unique c.args.request.now c.push_parts.new.out.items (rw c.in_ok-frame.ensures.items at c.in_ok-push_parts.ensures.ok)
