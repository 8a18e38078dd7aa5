use Rattle.std.proofs.Common.{◌≡◌, ◌<◌, ◌-◌}
use Rattle.block_pool.specs.Nodes.{node_at, step}
use Rattle.block_pool.proofs.nodes.place_below.Given as goal

abbrev pub invariant-loop-kept : goal.invariant-loop-kept
invariant-loop-kept l = (l.block ≡ step l.nodes.items (l.kept - 1) l.head) × ((node_at l.nodes.items l.block).position < l.position)
