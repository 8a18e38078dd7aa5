-- The bucket at the start stays a bucket when one more object goes in under the next generation.
use Rattle.std.proofs.Common.{ℕ, ◌+◌, ◌≤◌, List, length}
use Rattle.std.specs.Prelude.{None}
use Rattle.bucket_api.specs.declared.objects.Pair.{Pair}
use Rattle.bucket_api.specs.Names.{IsObjectName}
use Rattle.bucket_api.specs.Metadata.{KeysRise}
use Rattle.bucket_api.specs.Operation.{insert, max_content}
use Rattle.bucket_api.specs.BucketState.{BucketState, IsBucket, IsWithin}
use Rattle.bucket_api.specs.BucketStep.{with_new, new_object}
use Rattle.bucket_api.proofs.BucketLaws.{IsBucket-with_new, IsStored-new_object}
use Rattle.bucket_api.proofs.RoomLaws.{IsWithin-state_after}

module _ (b : BucketState) (name content : List ℕ) (pairs : List Pair) (stamp : ℕ) where
  pub bucket_next : IsBucket b → IsObjectName name → length content ≤ max_content → KeysRise pairs → IsBucket (with_new b name (new_object b name content pairs stamp))
  bucket_next is allowed bounded rise = IsBucket-with_new b name (new_object b name content pairs stamp) is (IsStored-new_object b name content pairs stamp allowed bounded rise)

  pub within_next : IsBucket b → IsWithin b.last b → IsWithin (b.last + 1) (with_new b name (new_object b name content pairs stamp))
  within_next is within = IsWithin-state_after (insert name content pairs None stamp) b.last b is within
