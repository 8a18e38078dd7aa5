-- The frames held, the one that became whole and those behind it wait, and the rest begins behind them.
use Rattle.std.proofs.Common.{◌≡◌, [], ◌∷◌, ◌++◌, length, refl, ap, ◌∙◌, arith}
use Rattle.fuse_frames.proofs.Steps.{ends_fits, ends_place, ends_takes, takes_kept}
use Rattle.fuse_frames.proofs.cutter.FrameCutter.take_in.Goals as goal

pub overflow_add-self : goal.overflow_add-self
overflow_add-self c =
    let room = rw (← c.self.view_is) at c.requires.room in
    let fits = ends_fits _ _ _ _ _ _ (rw c.in-Ok-Some.field-0-is at c.in-Ok-Some.ensures.ends) in
    let frame = ap (λ v. length v.items) c.replace-frame.ensures.value in
    omega (arith, room, fits, frame, c.len.ensures, c.replace-frame.result.ok.0)

pub overflow_add-self-in-Ok-Some : goal.overflow_add-self-in-Ok-Some
overflow_add-self-in-Ok-Some c =
    let room = rw (← c.self.view_is) at c.requires.room in
    let fits = ends_fits _ _ _ _ _ _ (rw c.in-Ok-Some.field-0-is at c.in-Ok-Some.ensures.ends) in
    let frame = ap (λ v. length v.items) c.replace-frame.ensures.value in
    omega (arith, room, fits, frame, c.len.ensures, c.replace-frame.result.ok.0, c.self.invariant.1)

pub invariant_of-self-in-Ok-Some : goal.invariant_of-self-in-Ok-Some
invariant_of-self-in-Ok-Some c =
    let ends = rw c.in-Ok-Some.field-0-is at c.in-Ok-Some.ensures.ends in
    let held : c.hold.new.held.items ≡ c.self.inside.held.items ++ c.advance.new.rest.items ∷ [] ++ c.in-Ok-Some.pieces.frames.items =
    rw (c.hold.ensures, c.replace-frame.ensures.value, c.in-Ok-Some.ensures.kept) refl in
    let rest : c.replace-frame.new.dest.items ≡ c.in-Ok-Some.pieces.rest.items = ap (λ v. v.items) c.replace-frame.ensures.after in
    let size : c.len.result ≡ length c.advance.new.rest.items =
    c.len.ensures ∙ c.replace-frame.result.ok.0 ∙ ap (λ v. length v.items) c.replace-frame.ensures.value in (
      takes_kept _ _ _ (ends_takes _ _ _ _ _ _ _ ends c.self.invariant.0 refl held rest),
      rw size (ends_place _ _ _ _ _ _ _ ends.behind.sized c.self.invariant.1 held),
    )

pub returns-in-Ok-Some : goal.returns-in-Ok-Some
returns-in-Ok-Some c =
    let ends = rw c.in-Ok-Some.field-0-is at c.in-Ok-Some.ensures.ends in
    let held : c.hold.new.held.items ≡ c.self.inside.held.items ++ c.advance.new.rest.items ∷ [] ++ c.in-Ok-Some.pieces.frames.items =
    rw (c.hold.ensures, c.replace-frame.ensures.value, c.in-Ok-Some.ensures.kept) refl in
    let rest : c.replace-frame.new.dest.items ≡ c.in-Ok-Some.pieces.rest.items = ap (λ v. v.items) c.replace-frame.ensures.after in
    rw (← c.self.view_is) (ends_takes _ _ _ _ _ _ _ ends c.self.invariant.0 refl held rest)
