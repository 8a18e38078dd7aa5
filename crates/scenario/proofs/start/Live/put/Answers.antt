-- The bucket with the object is a bucket, as its parts were allowed.
use Rattle.std.proofs.Common.{rules, ◌≡◌, ◌+◌, subst}
use Rattle.bucket_api.specs.BucketState.{BucketState, IsBucket}
use Rattle.bucket_api.specs.BucketStep.{with_new, new_object}
use Rattle.scenario.proofs.Starts.{bucket_next}
use Rattle.scenario.proofs.start.Live.put.Goals as goal

pub returns-clause-bucket : goal.returns-clause-bucket
returns-clause-bucket c =
    let old : BucketState = record { entries = c.args.self.now.objects.entries; last = c.args.self.now.last } in
    let p = c.args.parts in
    let made : with_new old p.name (new_object old p.name p.content p.pairs c.args.updated) ≡ record { entries = c.insert.new.self.entries; last = c.args.self.now.last + 1 } = search rules in
    subst IsBucket made (bucket_next old p.name p.content p.pairs c.args.updated c.requires.bucket c.requires.parts.name c.requires.parts.content c.requires.parts.pairs)
