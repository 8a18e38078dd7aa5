-- The pairs so far stand behind the others; there is room for what is left.
use Rattle.std.proofs.Common.{◌≡◌, ◌++◌, ◌≤◌, length, drop}
use Rattle.plan_files.proofs.times.copy_behind.Given as goal

abbrev pub invariant-loop-pair : goal.invariant-loop-pair
invariant-loop-pair l = record {
  put : l.row.items ++ drop l.pair-index l.pairs ≡ l.fn.row.items ++ l.pairs;
  room : length (drop l.pair-index l.pairs) ≤ l.row.spare;
}
