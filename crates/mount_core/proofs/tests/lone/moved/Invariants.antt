-- The next call may follow.
use Rattle.mount_core.specs.Lones.{HasNext, HasNoCall}
use Rattle.mount_core.proofs.tests.lone.moved.Given as goal

abbrev pub invariant-loop-one : goal.invariant-loop-one
invariant-loop-one g l = record {
  next : HasNext l.lone (record { lane = 1; index = l.index });
  beside : HasNoCall l.lone 9;
}
