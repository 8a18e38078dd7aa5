use Rattle.std.proofs.Common.{◌≤◌, ◌+◌}
use Rattle.fuse_frames.specs.Cutter.{fed}
use Rattle.fuse_frames.proofs.tests.feed_by_bytes.Given as goal

abbrev pub invariant-loop-byte : goal.invariant-loop-byte
invariant-loop-byte l = fed l.cutter ≤ fed l.fn.cutter + l.byte-index
