-- A glance keeps the rule, and shows the book.
use Rattle.std.proofs.Common.{rules, arith}
use Rattle.turn_lock.proofs.Kept.{glances}
use Rattle.turn_lock.proofs.turn.Turn.glance.Goals as goal

pub load-requires : goal.load-requires
load-requires g c = let b = g.S.Booked in let words = c.self.invariant.0 in
    (search rules, omega arith, glances b.entries b.home b.may_make _ _ _ _ _ 0 0)
