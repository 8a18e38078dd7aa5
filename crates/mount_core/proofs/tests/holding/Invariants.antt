-- So many objects were put.
use Rattle.std.proofs.Common.{◌≡◌}
use Rattle.bucket_api.specs.BucketState.{IsWithin}
use Rattle.mount_core.proofs.tests.holding.Given as goal

abbrev pub invariant-loop-name : goal.invariant-loop-name
invariant-loop-name g l = record {
  within : IsWithin l.made l.bucket;
  counted : l.made ≡ l.name-index;
}
