-- The pass keeps its bucket and its lane.
use Rattle.std.proofs.Common.{◌≡◌}
use Rattle.mem_bucket.proofs.tests.four_lanes.work.Given as goal

abbrev pub invariant-loop-number : goal.invariant-loop-number
invariant-loop-number g l = l.pass ≡ record l.initial.pass { seen = l.pass.seen; mine = l.pass.mine; faults = l.pass.faults }
