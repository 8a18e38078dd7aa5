use Rattle.std.proofs.Common.{length}
use Rattle.fuse_frames.proofs.tests.frames_of_two.Given as goal

abbrev pub decreases-loop-frame : goal.decreases-loop-frame
decreases-loop-frame l = length l.cutter.held
