-- Each file's steps stand behind those of the files before.
use Rattle.std.proofs.Common.{arith}
use Rattle.drill_maker.specs.Drill.{filling}
use Rattle.drill_maker.proofs.StepLaws.{numbers_next, numbers_end}
use Rattle.drill_maker.proofs.directory.fill_files.Goals as goal

pub loop-number-preserved : goal.loop-number-preserved
loop-number-preserved c =
    numbers_next (filling c.args.seed c.args.directory) c.loop-number.number _ _ _ _ _ (omega arith) c.in_ok-fill.ensures.ok c.loop-number.invariant

pub returns : goal.returns
returns c = record { ok = numbers_end (filling c.args.seed c.args.directory) c.loop-number.number _ _ _ (omega arith) c.loop-number.invariant }
