-- One more operation raises the bucket's numbers by at most one.
use Rattle.std.proofs.Common.{◌+◌, ◌^◌, subst, sym, arith}
use Rattle.bucket_api.proofs.BucketLaws.{IsBucket-state_after}
use Rattle.bucket_api.proofs.RoomLaws.{IsWithin-more, IsWithin-state_after}
use Rattle.bucket_api.specs.BucketState.{BucketState}
use Rattle.bucket_api.specs.BucketStep.{state_after}
use Rattle.bucket_api.specs.Operation.{operation}
use Rattle.mount_core.specs.Stores.{IsCounted}
use Rattle.mount_core.proofs.store.Store.make.Goals as goal

pub invariant_of-self-2 : goal.invariant_of-self-2
invariant_of-self-2 c =
    let op = operation c.args.op in
    let was = c.self.inside.bucket in
    subst (λ (bucket : BucketState). IsCounted (record { bucket = bucket; made = c.self.inside.made + 1 })) (sym c.in_ok-answer.ensures.after) (record {
      is = IsBucket-state_after op was c.requires.may c.self.invariant.is;
      within =
          IsWithin-more (2 ^ 62 + c.self.inside.made + 1) (2 ^ 62 + (c.self.inside.made + 1)) (state_after op was) (omega arith)
          (IsWithin-state_after op (2 ^ 62 + c.self.inside.made) was c.self.invariant.is c.self.invariant.within);
      bounded = omega (arith, c.if-self-ge-MOST_OPERATIONS.false);
    })
