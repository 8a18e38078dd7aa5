-- One more insert was made, which raises no number of the bucket by more than one.
use Rattle.std.proofs.Common.{◌≤◌, ℕ, List, length, sym, subst, lit≤}
use Rattle.bucket_api.specs.Operation.{insert, max_content, IsAllowed}
use Rattle.bucket_api.proofs.BucketLaws.{IsBucket-state_after}
use Rattle.bucket_api.proofs.RoomLaws.{IsWithin-state_after}
use Rattle.bucket_plain.proofs.tests.Tried.insert_given.Goals as goal

pub invariant_of-self-2 : goal.invariant_of-self-2
invariant_of-self-2 g c =
    let op = insert c.in_ok-name.name c.in_ok-content.content c.no_pairs-pairs.result.items c.args.only 6 in
    let short : length c.in_ok-content.content ≤ max_content = subst (λ (b : List ℕ). length b ≤ max_content) (sym c.in_ok-content.ensures.ok) (lit≤ tt) in
    let may : IsAllowed op = (c.in_ok-name.ensures, short, c.no_pairs-pairs.ensures) in
    rw c.in_ok-answer.ensures.after
    (IsBucket-state_after op c.self.inside.bucket may c.self.invariant.0, IsWithin-state_after op c.self.inside.most c.self.inside.bucket c.self.invariant.0 c.self.invariant.1)
