-- One more operation was made, which raises no number of the bucket by more than one.
use Rattle.bucket_api.specs.Operation.{operation}
use Rattle.bucket_api.proofs.BucketLaws.{IsBucket-state_after}
use Rattle.bucket_api.proofs.RoomLaws.{IsWithin-state_after}
use Rattle.mem_bucket.proofs.tests.bodies.AloneTried.ask.Goals as goal

pub invariant_of-self-2 : goal.invariant_of-self-2
invariant_of-self-2 g c =
    rw c.in_ok-answer.ensures.after
    (IsBucket-state_after (operation c.args.op.now) c.self.inside.bucket c.requires c.self.invariant.0, IsWithin-state_after (operation c.args.op.now) c.self.inside.most c.self.inside.bucket c.self.invariant.0 c.self.invariant.1)
