-- One more operation of the writer may be made, and is made.
use Rattle.std.proofs.Common.{◌≡◌, ◌∷◌, List, sym, subst}
use Rattle.bucket_api.specs.Operation.{Operation, operation}
use Rattle.mount_core.specs.Lones.{HasNoCall, with_event}
use Rattle.play_lanes.proofs.Results.{OnOk-both}
use Rattle.play_lanes.proofs.WriteLaws.{beside, may, write_done}
use Rattle.play_lanes.proofs.player.Player.write.Goals as goal
use Rattle.play_lanes.specs.Playing.{IsAmid}
use Rattle.scenario.specs.Parts.{Lane, ScenarioData, remote}

pub remote-requires-clause-may : goal.remote-requires-clause-may
remote-requires-clause-may c = may c.requires.next.0 _ (operation c.args.op.now) c.requires.next.1 c.requires.next.2 c.requires.next.3

pub remote-requires-clause-beside : goal.remote-requires-clause-beside
remote-requires-clause-beside c =
    let amid = subst (λ p. IsAmid remote c.requires.next.0 p (operation c.args.op.now ∷ c.requires.next.1) c.requires.next.2) (sym c.self.view_is) c.requires.next.3 in
    subst (HasNoCall c.self.inside.lone) (sym c.lane-lane.ensures) (beside c.requires.next.0 _ (operation c.args.op.now) c.requires.next.1 c.requires.next.2 amid)

pub returns : goal.returns
returns c = record {
  ok = OnOk-both c.remote.result
      (λ is writes (scenario : ScenarioData) (left : List Operation) (more : List Lane) amid.
      write_done scenario _ (operation c.args.op.now) left more (subst (λ p. IsAmid remote scenario p (operation c.args.op.now ∷ left) more) (sym c.self.view_is) amid) c.remote.new.self
      (subst (λ n. c.remote.new.self ≡ with_event c.self.inside.lone n (operation c.args.op.now)) c.lane-lane.ensures is) writes)
      c.remote.ensures.ok c.remote.ensures.told;
}
