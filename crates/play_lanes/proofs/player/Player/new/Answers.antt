-- The player has the scenario's own settings, bucket and script.
use Rattle.std.proofs.Common.{◌≡◌, refl, sym, ap, ◌∙◌}
use Rattle.play_lanes.proofs.LaneLaws.{starts}
use Rattle.play_lanes.proofs.player.Player.new.Goals as goal

pub returns : goal.returns
returns c = record {
  ok = starts c.args.scenario.now _ _ _ c.from_vec-script.result.items c.requires.lawful c.in_ok-new.ensures.ok
      (ap (λ s. s.config) c.scenario.view_is)
      (c.in_ok-bucket.ensures.ok ∙ ap (λ s. s.start) c.scenario.view_is)
      (c.from_vec-script.ensures.items ∙ c.in_ok-from_slice.ensures.items ∙ c.as_slice.ensures.items ∙ ap (λ s. s.script) c.scenario.view_is)
      c.new-2.ensures.items c.new-3.ensures.items c.new-4.ensures c.in_ok-new.ensures.told;
}
