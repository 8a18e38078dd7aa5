-- The files from here on are taken away behind those before.
use Rattle.std.proofs.Common.{◌≡◌, drop, map, [], ◌∷◌}
use Rattle.drill_maker.specs.Steps.{with_steps}
use Rattle.drill_maker.specs.Drill.{removing}
use Rattle.drill_maker.proofs.directory.remove_files.Given as goal

abbrev pub invariant-loop-number : goal.invariant-loop-number
invariant-loop-number l =
    with_steps l.lane (map (removing l.directory) (drop l.number-index (4 ∷ 8 ∷ 12 ∷ 16 ∷ []))) ≡ with_steps l.fn.lane (map (removing l.directory) (4 ∷ 8 ∷ 12 ∷ 16 ∷ []))
