-- A seat is as before but for what it has seen and made.
use Rattle.std.proofs.Common.{◌≡◌}
use Rattle.turn_lock.proofs.tests.visit_often.Given as goal

abbrev pub invariant-loop : goal.invariant-loop
invariant-loop g l = l.seat ≡ record l.initial.seat { seen = l.seat.seen; mine = l.seat.mine }
