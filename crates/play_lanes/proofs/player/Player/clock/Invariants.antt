-- The steps before are made, and those from here on are left.
use Rattle.std.proofs.Common.{List, drop}
use Rattle.play_lanes.proofs.player.Player.clock.Given as goal
use Rattle.play_lanes.specs.Playing.{IsAmid}
use Rattle.scenario.specs.Parts.{Lane, ScenarioData, clock}

abbrev pub invariant-loop-seconds : goal.invariant-loop-seconds
invariant-loop-seconds l = (scenario : ScenarioData) (more : List Lane) → IsAmid clock scenario l.fn.self l.steps more → IsAmid clock scenario l.self (drop l.seconds-index l.steps) more
