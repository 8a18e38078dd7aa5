-- The calls before are made, and those from here on are left.
use Rattle.std.proofs.Common.{List, drop}
use Rattle.play_lanes.proofs.player.Player.calls.Given as goal
use Rattle.play_lanes.specs.Playing.{IsAmid}
use Rattle.scenario.specs.Parts.{Lane, ScenarioData, calls}

abbrev pub invariant-loop-call : goal.invariant-loop-call
invariant-loop-call l = (scenario : ScenarioData) (more : List Lane) → IsAmid calls scenario l.fn.self l.scripted more → IsAmid calls scenario l.self (drop l.call-index l.scripted) more
