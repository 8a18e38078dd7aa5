use Rattle.std.proofs.Common.{◌*◌, max, min}
use Rattle.staging_spec.specs.Wanted.{is_source}
use Rattle.staged_file.specs.Staged.{touched_of}
use Rattle.staged_file.specs.Spans.{Spans}
use Rattle.staged_file.proofs.staged.Staged.needs_read.Given as goal

abbrev pub invariant-loop-block : goal.invariant-loop-block
invariant-loop-block l = Spans (is_source (touched_of l.pool.chains l.self) l.self.limit) l.first (max l.first (min l.end (l.block * 65536))) l.span.first l.span.end
