-- The frame at the front of what was left goes behind the frames that were cut.
use Rattle.std.proofs.lemmas.List.Elements.{All-push}
use Rattle.fuse_head.specs.Head.{IsWholeFrame}
use Rattle.fuse_frames.proofs.FrontLemmas.{joined_push}
use Rattle.fuse_frames.proofs.front.whole_frames.Goals as goal

pub loop-frame-preserved : goal.loop-frame-preserved
loop-frame-preserved c =
    rw (c.in_ok-push_back.ensures.items, c.in_ok-copy.ensures.ok) record {
      joined = joined_push c.args.bytes.now c.loop-frame.frames.items c.loop-frame.invariant.joined c.in-Some.ensures;
      whole = All-push IsWholeFrame c.loop-frame.frames.items c.in-Some.frame.now c.loop-frame.invariant.whole c.in-Some.ensures.whole;
    }
