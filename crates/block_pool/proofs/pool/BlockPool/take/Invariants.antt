use Rattle.block_pool.proofs.Taking.{IsTaken}
use Rattle.block_pool.proofs.pool.BlockPool.take.Given as goal

abbrev pub invariant-loop-position : goal.invariant-loop-position
invariant-loop-position l = IsTaken l.initial.self l.self l.chain l.position
