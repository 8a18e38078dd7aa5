-- One more object raises the bucket's numbers by at most one.
use Rattle.std.proofs.Common.{◌≡◌, ◌+◌, ℕ, None, subst, sym}
use Rattle.bucket_api.proofs.RoomLaws.{IsWithin-state_after}
use Rattle.bucket_api.specs.BucketState.{BucketState, IsBucket, IsWithin}
use Rattle.bucket_api.specs.BucketStep.{state_after}
use Rattle.bucket_api.specs.Operation.{Operation, insert}
use Rattle.mount_core.proofs.tests.put.Goals as goal

grown : (op : Operation) (made : ℕ) (before after : BucketState) → after ≡ state_after op before → IsBucket before → IsWithin made before → IsWithin (made + 1) after
grown op made before after is bucket within = subst (IsWithin (made + 1)) (sym is) (IsWithin-state_after op made before bucket within)

pub returns : goal.returns
returns g c =
    grown (insert c.in_ok-of.field-0 c.in_ok-of-2.field-0 c.no_pairs.result.items None 7) c.args.made c.args.bucket.now _ c.in_ok-apply.ensures.after c.last.ensures.bucket c.requires.within
