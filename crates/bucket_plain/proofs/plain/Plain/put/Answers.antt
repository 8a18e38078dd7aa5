-- A new object that may stand under the next generation keeps a bucket a bucket.
use Rattle.std.proofs.Common.{sym, subst, ◌+◌}
use Rattle.bucket_api.specs.BucketState.{BucketState, IsStored}
use Rattle.bucket_api.proofs.BucketLaws.{IsBucket-with_new}
use Rattle.bucket_plain.proofs.plain.Plain.put.Goals as goal

pub invariant_of-self-2 : goal.invariant_of-self-2
invariant_of-self-2 c =
    let b : BucketState = record { entries = c.self.inside.objects.entries; last = c.self.inside.last } in
    let s : IsStored (b.last + 1) c.args.name.now c.args.object = subst (λ (b : BucketState). IsStored (b.last + 1) c.args.name.now c.args.object) (sym c.self.view_is) c.requires.stored in
    rw (c.in-Ok.ensures.entries, c.in_ok-name.ensures.ok) (IsBucket-with_new b c.args.name.now c.args.object c.self.invariant s)
