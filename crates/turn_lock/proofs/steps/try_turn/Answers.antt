-- A try takes the turn where it is free, and else changes nothing.
use Rattle.std.proofs.Common.{arith, eqb}
use prog.Atomic.{either}
use Rattle.turn_lock.proofs.Kept.{takes_turn, taken_above}
use Rattle.turn_lock.proofs.steps.try_turn.Goals as goal

pub swap-requires : goal.swap-requires
swap-requires g c = let b = g.S.Booked in let words = c.requires.board.1 in
    (c.requires.board.0, omega arith, takes_turn b.entries b.home b.may_make _ _ _ _ _ (λ n. 2) 2 0 c.requires.own (λ n. omega arith))

pub compare_exchange-requires : goal.compare_exchange-requires
compare_exchange-requires g c = let b = g.S.Booked in let words = c.requires.board.1 in
    (c.requires.board.0, omega arith, takes_turn b.entries b.home b.may_make _ _ _ _ _ (λ n. either (eqb n 0) 1 n) 0 1 c.requires.own taken_above)
