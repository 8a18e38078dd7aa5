-- The state goes back where it stands for what was seen.
use Rattle.std.proofs.Common.{rules, arith, refl, Some, sym, ap, ◌∙◌}
use Rattle.turn_lock.specs.Seats.{slots_out}
use Rattle.turn_lock.proofs.Shown.{present-is, stands_as}
use Rattle.turn_lock.proofs.Kept.{leaves_from}
use Rattle.turn_lock.proofs.turn.Turn.leave.Goals as goal

pub swap-requires : goal.swap-requires
swap-requires g c = let b = g.S.Booked in let words = c.self.invariant.0 in
    let place = c.seat.inside.place in
    let entered = ap (λ s. s.entered) c.seat.view_is ∙ c.requires.entered in
    let first = ap (λ s. s.lock.first) c.seat.view_is ∙ ap (λ l. l.first) c.requires.lock in
    let seen = ap (λ s. s.seen) (sym c.seat.view_is) in
    let stands = stands_as b.entries b.home b.may_make _ _ _ _ _ _ refl seen refl c.requires.stands in
    (search rules, omega arith, leaves_from b.entries b.home b.may_make _ _ _ _ place.me c.args.state _ 0 0 (c.seat.invariant.0 ∙ ap slots_out entered) c.exchange.ensures.3 entered (present-is place.me.0.first c.seat.inside.live ∙ ap Some first) stands)
