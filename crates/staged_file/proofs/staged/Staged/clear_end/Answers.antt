use Rattle.std.proofs.Common.{◌/◌, arith}
use Rattle.staged_file.proofs.staged.Staged.clear_end.Goals as goal

pub returns-clause-kept : goal.returns-clause-kept
returns-clause-kept c source i lt = (c.clear_from.ensures.bytes source).below i lt

pub returns-clause-zeros : goal.returns-clause-zeros
returns-clause-zeros c source i le t = (c.clear_from.ensures.bytes source).inside i le (let h = c.requires.inside (i / 65536) t in omega arith)
