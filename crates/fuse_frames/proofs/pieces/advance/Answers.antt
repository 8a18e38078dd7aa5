-- A frame that isn't whole yet waits for more bytes, or its len is bad.
use Rattle.fuse_frames.proofs.Steps.{waits}
use Rattle.fuse_frames.proofs.pieces.advance.Goals as goal

pub returns-then-not-whole_frame-clause-waits : goal.returns-then-not-whole_frame-clause-waits
returns-then-not-whole_frame-clause-waits c =
    waits c.args.rest.now.items c.args.bytes.now c.grow.new.rest.items c.in_ok-left.left.now c.in_ok-left.ensures.ok (λ whole. let not = c.if-not-whole_frame.ensures.1 (rw c.as_slice.ensures.value whole) in cc)
