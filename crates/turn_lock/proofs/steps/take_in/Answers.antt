-- A meet keeps the rule, and the look after it settles which list is longer.
use Rattle.std.proofs.Common.{rules, arith}
use Rattle.turn_lock.proofs.Kept.{meets, settles}
use Rattle.turn_lock.proofs.steps.take_in.Goals as goal

pub join_seat-requires : goal.join_seat-requires
join_seat-requires g c = let b = g.S.Booked in let words = c.requires.board.2 in
    (c.requires.board.0, c.requires.board.1, c.requires.outside.2, omega arith, meets b.entries b.home b.may_make _ _ _ _ _ c.requires.quiet.0 c.requires.quiet.1 c.requires.outside.1)

pub load-requires : goal.load-requires
load-requires g c = let b = g.S.Booked in let words = c.requires.board.2 in
    (search rules, omega arith, settles b.entries b.home b.may_make _ _ _ _ _ 0 0 (search rules))
