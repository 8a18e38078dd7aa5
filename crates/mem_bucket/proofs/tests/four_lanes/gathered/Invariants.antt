-- The home holds what it held, with what the passes held that it has met.
use Rattle.std.proofs.Common.{◌≡◌, fold}
use Rattle.lane_spec.specs.Numbers.{together}
use Rattle.mem_bucket.proofs.tests.four_lanes.gathered.Given as goal

abbrev pub invariant-loop-work : goal.invariant-loop-work
invariant-loop-work l = (l.home.held ≡ fold (λ held w. together held w.pass.held) l.initial.home.held l.yielded) × (l.home.origin ≡ l.initial.home.origin)
