-- Keys that rise still do with one more among them.
use Rattle.std.proofs.Common.{rules, ◌≡◌, subst, sym}
use Rattle.bucket_api.proofs.BucketLaws.{KeysRise-with_pair}
use Rattle.bucket_api.specs.BucketStep.{with_pair}
use Rattle.bucket_api.specs.Metadata.{KeysRise}
use Rattle.plan_files.proofs.times.with_time.Goals as goal

pub returns-clause-rise : goal.returns-clause-rise
returns-clause-rise c rise =
    let same : c.put.new.row.items ≡ with_pair c.args.pairs.now.items c.in_ok-time.time = search rules in
    subst KeysRise (sym same) (KeysRise-with_pair c.in_ok-time.time c.args.pairs.now.items rise)
