-- Who holds all numbers has seen the whole book, for which the state stands.
use Rattle.std.proofs.Common.{refl, sym, ap, ◌∙◌, subst}
use Rattle.lane_spec.specs.Numbers.{HasAll}
use Rattle.turn_lock.proofs.Shown.{present-is, stands_as}
use Rattle.turn_lock.proofs.Kept.{ends}
use Rattle.turn_lock.proofs.turn.Turn.close.Goals as goal

pub unwrap-requires : goal.unwrap-requires
unwrap-requires g c = let b = g.S.Booked in
    let place = c.seat.inside.place in
    let all = subst HasAll (ap (λ s. s.held) (sym c.seat.view_is)) c.requires.all in
    let out = ap (λ s. s.entered) c.seat.view_is ∙ c.requires.outside in
    (ends b.entries b.home b.may_make _ _ place.me.0 _ _ _ _ all out (present-is place.me.0.first c.seat.inside.live) c.close_with-closed.ensures.values.2 c.take-state.ensures.value).0

pub returns : goal.returns
returns g c = let b = g.S.Booked in
    let place = c.seat.inside.place in
    let all = subst HasAll (ap (λ s. s.held) (sym c.seat.view_is)) c.requires.all in
    let out = ap (λ s. s.entered) c.seat.view_is ∙ c.requires.outside in
    let first = ap (λ s. s.lock.first) c.seat.view_is ∙ ap (λ l. l.first) c.requires.lock in
    let seen = ap (λ s. s.seen) c.seat.view_is in
    let last = ends b.entries b.home b.may_make _ _ place.me.0 _ _ _ _ all out (present-is place.me.0.first c.seat.inside.live) c.close_with-closed.ensures.values.2 c.take-state.ensures.value in
    stands_as b.entries b.home b.may_make _ _ _ _ _ _ first seen refl (last.1 c.unwrap.result c.unwrap.ensures)
