-- A live metageneration may rise by one, and an update keeps a bucket a bucket.
use Rattle.std.proofs.Common.{◌≡◌, sym, ap, ◌∙◌}
use Rattle.std.specs.Prelude.{Some}
use Rattle.std.specs.Option.{option_copied_mut}
use Rattle.bucket_api.specs.BucketState.{BucketState, object_at}
use Rattle.bucket_api.specs.BucketStep.{updated_object}
use Rattle.bucket_api.specs.declared.objects.Object.{Object}
use Rattle.bucket_api.proofs.BucketLaws.{room_at, IsBucket-updated}
use Rattle.bucket_plain.proofs.plain.Plain.update.Goals as goal

pub updated-requires-clause-room : goal.updated-requires-clause-room
updated-requires-clause-room c = room_at c.args.self.now c.args.name.now c.in-Some.object.now c.requires.room (sym c.in-Some.ensures.found)

-- what `get_mut` lends is the live object
pub invariant_of-self : goal.invariant_of-self
invariant_of-self c =
    let b : BucketState = record { entries = c.self.inside.objects.entries; last = c.self.inside.last } in
    let w : Object = record { meta = c.in_ok-meta.meta; content = c.unwrap.result.now.content } in
    let live : object_at b c.args.name.now ≡ Some c.unwrap.result.now = sym c.get_mut.ensures.value ∙ ap option_copied_mut c.unwrap.ensures in
    let found : Some c.in-Some.object.now ≡ Some c.unwrap.result.now = c.in-Some.ensures.found ∙ ap (λ b. object_at b c.args.name.now) (sym c.self.view_is) ∙ live in
    let same : c.in-Some.object.now ≡ c.unwrap.result.now = cc in
    let written : w ≡ updated_object c.args.pairs.now.items c.args.stamp c.unwrap.result.now = rw (c.in_ok-meta.ensures.ok, same) in
    rw ((c.get_mut.follows.holds w).0, written) (IsBucket-updated b c.args.name.now c.unwrap.result.now c.args.pairs.now.items c.args.stamp c.self.invariant live)
