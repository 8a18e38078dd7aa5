-- The state stands for the book with the entry made.
use Rattle.std.proofs.Common.{rules, refl}
use Rattle.turn_lock.proofs.Standing.{stands_after_append}
use Rattle.turn_lock.proofs.tests.visit_counted.Goals as goal

pub leave-requires-2-clause-stands : goal.leave-requires-2-clause-stands
leave-requires-2-clause-stands g c =
    stands_after_append _ _ _ _ _ _ _ _ c.args.number c.enter_counted-visits.ensures.stands c.in-Ok.ensures.items refl (search rules) c.append.ensures.added
