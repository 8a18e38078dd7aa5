-- Each file's step stands behind those of the files before.
use Rattle.std.proofs.Common.{[], ◌∷◌, arith}
use Rattle.drill_maker.specs.Drill.{removing}
use Rattle.drill_maker.proofs.StepLaws.{items_next, items_end}
use Rattle.drill_maker.proofs.directory.remove_files.Goals as goal

pub loop-number-preserved : goal.loop-number-preserved
loop-number-preserved c =
    items_next (removing c.args.directory) (4 ∷ 8 ∷ 12 ∷ 16 ∷ []) c.loop-number.number-index _ _ _ (omega arith) c.in_ok-remove.ensures.ok c.loop-number.invariant

pub returns : goal.returns
returns c = record { ok = items_end (removing c.args.directory) (4 ∷ 8 ∷ 12 ∷ 16 ∷ []) c.loop-number.number-index _ _ (omega arith) c.loop-number.invariant }
