use Rattle.std.proofs.Common.{◌+◌, ◌*◌, min, length}
use Rattle.staged_file.specs.Staged.{byte_at}
use Rattle.staged_file.proofs.PartsRead.{IsRead}
use Rattle.staged_file.proofs.staged.Staged.read.Given as goal

abbrev pub invariant-loop-block : goal.invariant-loop-block
invariant-loop-block l = IsRead (byte_at l.pool.chains l.self) l.first l.base_first l.base l.out (min (l.first + length l.out) (l.block * 65536))
