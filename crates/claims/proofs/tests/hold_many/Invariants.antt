use Rattle.std.proofs.Common.{◌*◌, ◌≤◌}
use Rattle.claims.proofs.tests.hold_many.Given as goal

abbrev pub invariant-loop-number : goal.invariant-loop-number
invariant-loop-number l = (l.table.next ≤ 2 * l.number) × (l.held ≤ l.number)
