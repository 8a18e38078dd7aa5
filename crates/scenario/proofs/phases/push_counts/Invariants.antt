-- The lanes so far are counted.
use Rattle.std.proofs.Common.{◌≡◌, ◌++◌, take}
use Rattle.std.specs.Prelude.{map}
use Rattle.scenario.specs.Checks.{calls_of}
use Rattle.scenario.specs.Works.{lane_of}
use Rattle.scenario.proofs.phases.push_counts.Given as goal

abbrev pub invariant-loop-lane : goal.invariant-loop-lane
invariant-loop-lane l = l.counts.items ≡ l.fn.counts.items ++ map calls_of (map lane_of (take l.lane-index l.lanes))
