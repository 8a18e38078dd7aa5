use Rattle.staged_file.proofs.Copies.{AreFilled}
use Rattle.staged_file.proofs.frozen.fill_untouched.Given as goal

abbrev pub invariant-loop-block : goal.invariant-loop-block
invariant-loop-block l = AreFilled l.touched l.limit l.base_first l.base l.fn.bytes l.bytes l.block
