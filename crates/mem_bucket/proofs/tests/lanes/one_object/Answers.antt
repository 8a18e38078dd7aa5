-- One operation on an empty bucket leaves its numbers small.
use Rattle.std.proofs.Common.{◌-◌, ◌^◌, arith, sym, subst}
use Rattle.bucket_api.specs.Operation.{operation}
use Rattle.bucket_api.specs.BucketState.{empty_bucket, IsWithin}
use Rattle.bucket_api.specs.BucketStep.{state_after}
use Rattle.bucket_api.proofs.BucketLaws.{IsBucket-empty}
use Rattle.bucket_api.proofs.RoomLaws.{IsWithin-empty, IsWithin-more, IsWithin-state_after}
use Rattle.mem_bucket.proofs.tests.lanes.one_object.Goals as goal

pub returns : goal.returns
returns g c = let op = operation c.in_ok-op.op in
    subst (IsWithin (2 ^ 62 - 1)) (sym c.in_ok-apply.ensures.after)
    (subst (λ b. IsWithin (2 ^ 62 - 1) (state_after op b)) (sym c.new-bucket.ensures)
    (IsWithin-more 1 (2 ^ 62 - 1) (state_after op empty_bucket) (omega arith) (IsWithin-state_after op 0 empty_bucket IsBucket-empty (IsWithin-empty 0))))
