-- A removal keeps a bucket a bucket.
use Rattle.bucket_api.proofs.BucketLaws.{IsBucket-without_object}
use Rattle.bucket_plain.proofs.plain.Plain.delete.Goals as goal

pub invariant_of-self : goal.invariant_of-self
invariant_of-self c = rw c.remove.ensures.entries (IsBucket-without_object (record { entries = c.self.inside.objects.entries; last = c.self.inside.last }) c.args.name.now c.self.invariant)
