-- The phases before are played, and the lanes of those from here on are left.
use Rattle.std.proofs.Common.{drop}
use Rattle.play_lanes.proofs.playing.play.Given as goal
use Rattle.play_lanes.specs.Playing.{IsBetween, lanes_in}

abbrev pub invariant-loop-phase : goal.invariant-loop-phase
invariant-loop-phase l = IsBetween l.scenario l.player (lanes_in (drop l.phase-index l.scenario.phases))
