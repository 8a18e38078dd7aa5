-- The pairs so far, and the others with the one among them; there is room for these.
use Rattle.std.proofs.Common.{◌≡◌, ◌+◌, ◌++◌, ◌≤◌, length}
use Rattle.bucket_api.specs.BucketStep.{with_pair}
use Rattle.plan_files.proofs.times.put.Given as goal

abbrev pub invariant-pairs : goal.invariant-pairs
invariant-pairs l = record {
  put : l.row.items ++ with_pair l.rest l.one ≡ l.fn.row.items ++ with_pair l.pairs l.one;
  room : length l.rest + 1 ≤ l.row.spare;
}

abbrev pub decreases-pairs : goal.decreases-pairs
decreases-pairs l = length l.rest
