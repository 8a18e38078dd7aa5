-- What is left of both rows, merged, stands after the pairs so far.
use Rattle.std.proofs.Common.{◌≡◌, ◌+◌, ◌++◌, length}
use Rattle.bucket_api.specs.Metadata.{KeysRise}
use Rattle.bucket_api.specs.BucketStep.{with_pairs}
use Rattle.bucket_plain.proofs.pairs.merged.Given as goal

abbrev pub invariant-loop-kept : goal.invariant-loop-kept
invariant-loop-kept l = record {
  merged : l.pairs.items ++ with_pairs l.old l.new ≡ with_pairs l.present.items l.added.items;
  rise : KeysRise l.new;
}

abbrev pub decreases-loop-kept : goal.decreases-loop-kept
decreases-loop-kept l = length l.old + length l.new
