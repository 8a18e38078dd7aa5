-- The next step is the first of those that are left, and behind the last the lane ends.
use Rattle.std.proofs.Common.{◌≡◌, ◌+◌, ◌∷◌, List, drop, get_or, subst, refl}
use Rattle.std.proofs.lemmas.List.{drop_all}
use Rattle.play_lanes.proofs.LaneLaws.{lane_ended}
use Rattle.play_lanes.proofs.Results.{drop_next}
use Rattle.play_lanes.proofs.player.Player.clock.Goals as goal
use Rattle.play_lanes.specs.Playing.{IsAmid}
use Rattle.scenario.specs.Parts.{clock}

pub tick-requires : goal.tick-requires
tick-requires c = record {
  next = (
    c.requires.next.0,
    drop (c.loop-seconds.seconds-index + 1) c.args.steps.now,
    c.requires.next.1,
    subst (λ left. IsAmid clock c.requires.next.0 c.loop-seconds.self left c.requires.next.1)
        (drop_next c.args.steps.now c.loop-seconds.seconds-index (get_or c.args.steps.now c.loop-seconds.seconds-index 0) 0 c.loop-seconds-test.true refl)
        (c.loop-seconds.invariant c.requires.next.0 c.requires.next.1 c.requires.next.2),
  );
}

pub returns : goal.returns
returns c = record {
  ok = λ scenario more amid.
      lane_ended clock scenario c.loop-seconds.self more
      (subst (λ left. IsAmid clock scenario c.loop-seconds.self left more) (drop_all c.loop-seconds.seconds-index c.args.steps.now c.loop-seconds-test.false)
      (c.loop-seconds.invariant scenario more amid));
}
