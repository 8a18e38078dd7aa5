-- What both passes had seen goes on to what the one has seen then.
use Rattle.std.proofs.Common.{sym, ap, subst}
use Rattle.turn_lock.specs.Book.{entries_of, AllMade}
use Rattle.bucket_api.specs.Passes.{LogGoesOn}
use Rattle.mem_bucket.specs.Homes.{MayMake}
use Rattle.mem_bucket.proofs.PassLaws.{log_goes_on, made_longer}
use Rattle.mem_bucket.proofs.mem_bucket.MemBucketBucket.meet.Goals as goal

made : (c : goal.After-pass-1) → AllMade MayMake c.meet.new.seat.seen
made c = subst (AllMade MayMake) (sym (ap (λ s. s.seen) c.meet.ensures.kept)) (made_longer c.pass.inside.seat.seen c.other.inside.seat.seen c.pass.invariant.made c.other.invariant.made)

pub returns-clause-seen : goal.returns-clause-seen
returns-clause-seen c = let seat = c.pass.inside.seat in
    subst (λ p. LogGoesOn p.held p.seen (entries_of c.meet.new.seat.seen)) c.pass.view_is (log_goes_on seat.held seat.seen c.meet.new.seat.seen (made c) c.meet.ensures.seen)

pub returns-clause-met : goal.returns-clause-met
returns-clause-met c = let seat = c.other.inside.seat in
    subst (λ p. LogGoesOn p.held p.seen (entries_of c.meet.new.seat.seen)) c.other.view_is (log_goes_on seat.held seat.seen c.meet.new.seat.seen (made c) c.meet.ensures.met)
