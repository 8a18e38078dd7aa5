-- The pass has seen more of the log.
use Rattle.std.proofs.Common.{subst}
use Rattle.bucket_api.specs.Passes.{SeesMore}
use Rattle.mem_bucket.specs.MemPasses.{pass_of}
use Rattle.mem_bucket.proofs.PassLaws.{sees_more, sound, still_seated}
use Rattle.mem_bucket.proofs.mem_bucket.MemBucketBucket.glance.Goals as goal

pub returns-clause-seen : goal.returns-clause-seen
returns-clause-seen c = let now = c.glance.ensures in
    subst (λ p. SeesMore p (pass_of c.glance.new.seat c.pass.inside.faults)) c.pass.view_is (sees_more c.pass.inside.seat c.glance.new.seat c.pass.inside.faults now.made now.seen now.kept)

pub returns-clause-valid : goal.returns-clause-valid
returns-clause-valid c = let now = c.glance.ensures in
    sound c.glance.new.seat c.pass.inside.lane c.pass.inside.faults (still_seated c.pass.inside.seat c.glance.new.seat c.pass.inside.lane c.pass.invariant now.kept now.made)
