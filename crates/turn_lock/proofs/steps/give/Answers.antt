-- A split keeps the rule.
use Rattle.std.proofs.Common.{arith, subst, sym, ◌≡◌, true}
use Rattle.lane_spec.specs.Numbers.{has}
use Rattle.turn_lock.proofs.Kept.{splits}
use Rattle.turn_lock.proofs.steps.give.Goals as goal

pub split_seat-requires : goal.split_seat-requires
split_seat-requires g c = let b = g.S.Booked in let words = c.requires.board.1 in
    (c.requires.board.0, omega arith, splits b.entries b.home b.may_make _ _ _ _ c.requires.outside.0 c.requires.outside.1 (subst (λ n. has c.args.place.now.me.0.held n ≡ true) (sym c.requires.number) c.requires.held))
