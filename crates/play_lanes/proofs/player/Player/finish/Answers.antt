-- What was played of all lanes is a history of the scenario.
use Rattle.std.proofs.Common.{◌≡◌, [], sym, subst}
use Rattle.history_text.specs.HistoryText.{History}
use Rattle.play_lanes.proofs.HistoryLaws.{finished}
use Rattle.play_lanes.proofs.player.Player.finish.Goals as goal
use Rattle.play_lanes.specs.Histories.{IsHistory}
use Rattle.play_lanes.specs.Playing.{IsBetween}
use Rattle.scenario.specs.Parts.{ScenarioData}

pub returns : goal.returns
returns c = record {
  history = λ (scenario : ScenarioData) between.
      let its = subst (λ p. IsBetween scenario p []) (sym c.self.view_is) between in
      subst (IsHistory scenario)
      (λ i. record {
        replies = c.self.inside.replies.items;
        calls = c.self.inside.calls.items;
        bucket = sym c.finish-bucket.ensures.bucket i;
        log = sym c.finish-bucket.ensures.log i;
        journal = sym c.finish-bucket.ensures.journal i;
      })
      (finished scenario _ its c.finish-bucket.ensures.lone);
}
