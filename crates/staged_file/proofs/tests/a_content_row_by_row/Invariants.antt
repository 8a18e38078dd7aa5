-- The file stays staged in its pool, over its source.
use Rattle.std.proofs.Common.{◌≡◌}
use Rattle.staged_file.specs.Staged.{IsStaged}
use Rattle.staged_file.proofs.tests.a_content_row_by_row.Given as goal

abbrev pub invariant-loop-row : goal.invariant-loop-row
invariant-loop-row g l = IsStaged l.pool.chains l.file × (l.file.base ≡ 65537)
