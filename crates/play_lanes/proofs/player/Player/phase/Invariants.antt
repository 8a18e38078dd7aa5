-- The lanes before are played, and those from here on are left.
use Rattle.std.proofs.Common.{List, ◌++◌, drop}
use Rattle.play_lanes.proofs.player.Player.phase.Given as goal
use Rattle.play_lanes.specs.Playing.{IsBetween}
use Rattle.scenario.specs.Parts.{Lane, ScenarioData}

abbrev pub invariant-loop-work : goal.invariant-loop-work
invariant-loop-work l = (scenario : ScenarioData) (left : List Lane) → IsBetween scenario l.fn.self (l.phase ++ left) → IsBetween scenario l.self (drop l.work-index l.phase ++ left)
