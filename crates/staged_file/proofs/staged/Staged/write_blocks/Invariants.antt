use Rattle.staged_file.proofs.BlockByBlock.{SoFar}
use Rattle.staged_file.proofs.staged.Staged.write_blocks.Given as goal

abbrev pub invariant-loop-block : goal.invariant-loop-block
invariant-loop-block l = SoFar l.fn.pool l.fn.self l.pool l.self l.first l.from l.base_first l.base l.block
