-- The lanes from here on come behind those so far, for which there is room.
use Rattle.std.proofs.Common.{◌≡◌, ◌++◌, ◌-◌, ◌≤◌}
use Rattle.std.specs.Prelude.{map}
use Rattle.std.specs.List.{range_with_len}
use Rattle.scenario.specs.Works.{lane_of}
use Rattle.drill_maker.specs.Drill.{directory_lane}
use Rattle.drill_maker.proofs.making.push_directories.Given as goal

abbrev pub invariant-loop-directory : goal.invariant-loop-directory
invariant-loop-directory l = record {
  room : 10 - l.directory ≤ l.lanes.spare;
  all : map lane_of l.lanes.items ++ map (directory_lane l.seed) (range_with_len l.directory (9 - l.directory)) ≡ map lane_of l.fn.lanes.items ++ map (directory_lane l.seed) (range_with_len 1 8);
}
