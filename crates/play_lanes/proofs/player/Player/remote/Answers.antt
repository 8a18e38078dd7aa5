-- The next operation is the first of those that are left, and behind the last the lane ends.
use Rattle.std.proofs.Common.{◌≡◌, ◌+◌, ◌∷◌, List, drop, map, subst, ap}
use Rattle.std.proofs.lemmas.List.{drop_all}
use Rattle.bucket_api.specs.Operation.{operation}
use Rattle.play_lanes.proofs.LaneLaws.{lane_ended}
use Rattle.play_lanes.proofs.Results.{drop_next}
use Rattle.play_lanes.proofs.player.Player.remote.Goals as goal
use Rattle.play_lanes.specs.Playing.{IsAmid}
use Rattle.scenario.specs.Parts.{remote}

pub write-requires : goal.write-requires
write-requires c = record {
  next = (
    c.requires.next.0,
    map operation (drop (c.loop-op.op-index + 1) c.args.operations.now),
    c.requires.next.1,
    subst (λ left. IsAmid remote c.requires.next.0 c.loop-op.self (map operation left) c.requires.next.1)
        (drop_next c.args.operations.now c.loop-op.op-index c.op-item.result c.op-item.result c.loop-op-test.true c.op-item.is)
        (c.loop-op.invariant c.requires.next.0 c.requires.next.1 c.requires.next.2),
  );
}

pub returns : goal.returns
returns c = record {
  ok = λ scenario more amid.
      lane_ended remote scenario c.loop-op.self more
      (subst (λ left. IsAmid remote scenario c.loop-op.self (map operation left) more) (drop_all c.loop-op.op-index c.args.operations.now c.loop-op-test.false)
      (c.loop-op.invariant scenario more amid));
}
