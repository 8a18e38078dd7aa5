-- What is live may stand under the next generation too.
use Rattle.std.proofs.Common.{sym}
use Rattle.bucket_api.proofs.BucketLaws.{IsStored-copied}
use Rattle.bucket_plain.proofs.plain.Plain.copy_object.Goals as goal

pub put-requires-clause-stored : goal.put-requires-clause-stored
put-requires-clause-stored c = rw c.in_ok-object-in-Some.ensures.ok (IsStored-copied c.args.self.now c.args.from.now c.args.to.now c.in-Some.object.now c.args.stamp c.in-Some.ensures.bucket (sym c.in-Some.ensures.found) c.requires.may.1)
