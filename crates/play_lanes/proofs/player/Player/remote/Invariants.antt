-- The operations before are made, and those from here on are left.
use Rattle.std.proofs.Common.{List, drop, map}
use Rattle.bucket_api.specs.Operation.{operation}
use Rattle.play_lanes.proofs.player.Player.remote.Given as goal
use Rattle.play_lanes.specs.Playing.{IsAmid}
use Rattle.scenario.specs.Parts.{Lane, ScenarioData, remote}

abbrev pub invariant-loop-op : goal.invariant-loop-op
invariant-loop-op l = (scenario : ScenarioData) (more : List Lane) → IsAmid remote scenario l.fn.self (map operation l.operations) more
    → IsAmid remote scenario l.self (map operation (drop l.op-index l.operations)) more
