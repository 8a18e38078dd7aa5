use Rattle.std.proofs.Common.{◌-◌, ◌≤◌, vec_len}
use Rattle.claims.proofs.name_tallies.fill.Given as goal

abbrev pub invariant-loop-alloc : goal.invariant-loop-alloc
invariant-loop-alloc l = vec_len l.fn.buffers ≤ vec_len l.buffers

abbrev pub decreases-loop-alloc : goal.decreases-loop-alloc
decreases-loop-alloc l = l.wanted - vec_len l.buffers
