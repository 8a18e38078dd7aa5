-- The frame given counts among the bytes given, and the others go on waiting.
use Rattle.std.proofs.Common.{◌+◌, length, refl, ap}
use Rattle.fuse_frames.specs.Cutter.{Cutter, GivesFrame}
use Rattle.fuse_frames.proofs.CutterLemmas.{has_read_frame}
use Rattle.fuse_frames.proofs.Steps.{first_whole, gives_kept}
use Rattle.fuse_frames.proofs.cutter.FrameCutter.next.Goals as goal

pub invariant_of-self-2 : goal.invariant_of-self-2
invariant_of-self-2 c =
    rw c.as_slice.ensures.bytes
    (gives_kept c.self.inside.given c.self.inside.rest_place c.self.inside.held.items c.pop_front.new.self.items c.self.inside.rest.items c.in-Some.frame
    c.self.invariant.0 c.self.invariant.1 c.in-Some.ensures.items)

pub returns-clause-frames : goal.returns-clause-frames
returns-clause-frames c stream gave read =
    let old : Cutter = record { given = c.self.inside.given; held = c.self.inside.held.items; rest = c.self.inside.rest.items } in
    let new : Cutter = record { given = c.self.inside.given + length c.as_slice.result.now; held = c.pop_front.new.self.items; rest = c.self.inside.rest.items } in
    let gives : GivesFrame old c.in-Some.frame new = record {
      first = c.in-Some.ensures.items;
      given = ap (λ b. c.self.inside.given + length b) c.as_slice.ensures.bytes;
      rest = refl;
      whole = first_whole _ _ _ c.self.invariant.0.whole c.in-Some.ensures.items;
    } in
    has_read_frame (rw (← c.self.view_is) at read) gives
