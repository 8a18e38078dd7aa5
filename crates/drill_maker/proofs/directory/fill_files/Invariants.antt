-- The files from here on are filled behind those before.
use Rattle.std.proofs.Common.{◌≡◌, ◌-◌}
use Rattle.std.specs.List.{flat_map, range_with_len}
use Rattle.drill_maker.specs.Steps.{with_steps}
use Rattle.drill_maker.specs.Drill.{filling}
use Rattle.drill_maker.proofs.directory.fill_files.Given as goal

abbrev pub invariant-loop-number : goal.invariant-loop-number
invariant-loop-number l =
    with_steps l.lane (flat_map (filling l.seed l.directory) (range_with_len l.number (17 - l.number))) ≡ with_steps l.fn.lane (flat_map (filling l.seed l.directory) (range_with_len 1 16))
