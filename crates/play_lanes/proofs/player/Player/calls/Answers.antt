-- The next call is the first of those that are left, and behind the last the lane ends.
use Rattle.std.proofs.Common.{◌≡◌, ◌+◌, ◌∷◌, List, drop, subst}
use Rattle.std.proofs.lemmas.List.{drop_all}
use Rattle.play_lanes.proofs.LaneLaws.{lane_ended}
use Rattle.play_lanes.proofs.Results.{drop_next}
use Rattle.play_lanes.proofs.player.Player.calls.Goals as goal
use Rattle.play_lanes.specs.Playing.{IsAmid}
use Rattle.scenario.specs.Parts.{calls}

pub call-requires : goal.call-requires
call-requires c = record {
  next = (
    c.requires.next.0,
    drop (c.loop-call.call-index + 1) c.args.scripted.now,
    c.requires.next.1,
    subst (λ left. IsAmid calls c.requires.next.0 c.loop-call.self left c.requires.next.1)
        (drop_next c.args.scripted.now c.loop-call.call-index c.call-item.result c.call-item.result c.loop-call-test.true c.call-item.is)
        (c.loop-call.invariant c.requires.next.0 c.requires.next.1 c.requires.next.2),
  );
}

pub returns : goal.returns
returns c = record {
  ok = λ scenario more amid.
      lane_ended calls scenario c.loop-call.self more
      (subst (λ left. IsAmid calls scenario c.loop-call.self left more) (drop_all c.loop-call.call-index c.args.scripted.now c.loop-call-test.false) (c.loop-call.invariant scenario more amid));
}
