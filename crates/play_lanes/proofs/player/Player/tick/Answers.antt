-- One more step of the clock is made.
use Rattle.std.proofs.Common.{◌≡◌, ◌∷◌, List, ℕ, sym, subst}
use Rattle.play_lanes.proofs.Results.{OnOk-both}
use Rattle.play_lanes.proofs.WriteLaws.{tick_done}
use Rattle.play_lanes.proofs.player.Player.tick.Goals as goal
use Rattle.play_lanes.specs.Playing.{IsAmid}
use Rattle.scenario.specs.Parts.{Lane, ScenarioData, clock}

pub returns : goal.returns
returns c = record {
  ok = OnOk-both c.tick.result
      (λ is ticks (scenario : ScenarioData) (left : List ℕ) (more : List Lane) amid.
      tick_done scenario _ c.args.seconds left more (subst (λ p. IsAmid clock scenario p (c.args.seconds ∷ left) more) (sym c.self.view_is) amid) c.tick.new.self is ticks)
      c.tick.ensures.ok c.tick.ensures.told;
}
