use Rattle.std.proofs.Common.{◌≡◌, ◌-◌}
use Rattle.block_pool.specs.Chains.{at}
use Rattle.block_pool.specs.Nodes.{node_at, step, walk, placed, chain_at}
use Rattle.block_pool.proofs.nodes.block_at.Given as goal

abbrev pub invariant-loop-steps : goal.invariant-loop-steps
invariant-loop-steps l =
    (l.block ≡ step l.nodes.items l.steps l.head)
    × (at (placed l.nodes.items (walk l.nodes.items ((node_at l.nodes.items l.head).count - l.steps) l.block)) l.position ≡ at (chain_at l.nodes.items l.head) l.position)
