-- The writes from here on come behind those so far, for which there is room.
use Rattle.std.proofs.Common.{◌≡◌, ◌++◌, ◌-◌, ◌≤◌}
use Rattle.std.specs.Prelude.{map}
use Rattle.std.specs.List.{range_with_len}
use Rattle.bucket_api.specs.Operation.{operation}
use Rattle.drill_maker.specs.Drill.{remote_write}
use Rattle.drill_maker.proofs.making.remote_lane.Given as goal

abbrev pub invariant-loop-number : goal.invariant-loop-number
invariant-loop-number l = record {
  room : 5 - l.number ≤ l.operations.spare;
  all : map operation l.operations.items ++ map remote_write (range_with_len l.number (5 - l.number)) ≡ map remote_write (range_with_len 1 4);
}
