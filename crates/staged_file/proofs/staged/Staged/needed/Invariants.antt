use Rattle.std.proofs.Common.{◌≡◌, ◌-◌}
use Rattle.staged_file.specs.Staged.{touched_of}
use Rattle.staged_file.proofs.Positions.{new_ones}
use Rattle.staged_file.proofs.staged.Staged.needed.Given as goal

abbrev pub invariant-loop-block : goal.invariant-loop-block
invariant-loop-block l = l.needed ≡ new_ones (touched_of l.pool.chains l.self) l.front (l.block - l.front)
