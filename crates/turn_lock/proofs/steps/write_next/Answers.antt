-- An entry that may be made next keeps the rule.
use Rattle.std.proofs.Common.{arith}
use Rattle.turn_lock.proofs.Kept.{appends}
use Rattle.turn_lock.proofs.steps.write_next.Goals as goal

pub fetch_add-requires : goal.fetch_add-requires
fetch_add-requires g c = let b = g.S.Booked in let words = c.requires.board.1 in let next = c.requires.next.1 in
    (c.requires.board.0, omega arith, appends b.entries b.home b.may_make _ _ _ _ _ _ next.0 1 0 next.1 c.requires.entered.0 c.requires.entered.1 next.2 c.requires.room)
