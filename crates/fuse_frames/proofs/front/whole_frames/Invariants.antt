use Rattle.std.proofs.Common.{◌≡◌, ◌++◌, length}
use Rattle.std.specs.List.{concat}
use Rattle.std.specs.Prelude.{All}
use Rattle.fuse_head.specs.Head.{IsWholeFrame}
use Rattle.fuse_frames.proofs.front.whole_frames.Given as goal

abbrev pub invariant-loop-frame : goal.invariant-loop-frame
invariant-loop-frame l = record { joined : l.bytes ≡ concat l.frames.items ++ l.left; whole : All IsWholeFrame l.frames.items }

abbrev pub decreases-loop-frame : goal.decreases-loop-frame
decreases-loop-frame l = length l.left
