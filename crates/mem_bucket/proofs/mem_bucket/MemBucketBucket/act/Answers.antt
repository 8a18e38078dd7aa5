-- The pass has made one event under the lock, or has come back from it for want of memory.
use Rattle.std.proofs.Common.{◌≡◌, refl, sym, ap, subst}
use Rattle.turn_lock.specs.Book.{AllMade, GoesOn, entries_of}
use Rattle.bucket_api.specs.Operation.{operation, IsAllowed}
use Rattle.bucket_api.specs.Log.{FollowsScript}
use Rattle.bucket_api.specs.Scripts.{FaultsByScript}
use Rattle.bucket_api.specs.Passes.{SeesMore, IsBucketPass, Acts}
use Rattle.mem_bucket.specs.Homes.{MayMake}
use Rattle.mem_bucket.specs.MemPasses.{pass_of}
use Rattle.mem_bucket.proofs.PassLaws.{IsTurn, sound, sees_more, came_back, still_seated, same_first, stands, seated_after, acted, follows, faults_by_script}
use Rattle.mem_bucket.proofs.mem_bucket.MemBucketBucket.act.Goals as goal

pub returns-in_err-op-clause-valid : goal.returns-in_err-op-clause-valid
returns-in_err-op-clause-valid g c = subst IsBucketPass c.pass.view_is (sound c.pass.inside.seat c.pass.inside.lane c.pass.inside.faults c.pass.invariant)

-- ---- no memory: the seat has come back

back : (g : _) (c : goal.After-leave g) → c.leave.new.seat ≡ record c.pass.inside.seat { seen = c.leave.new.seat.seen }
back g c = came_back c.pass.inside.seat c.enter-kept.new.seat c.leave.new.seat c.pass.invariant.outside c.enter-kept.ensures.kept c.leave.ensures.kept

seen_back : (g : _) (c : goal.After-leave g) → c.enter-kept.new.seat.seen ≡ c.leave.new.seat.seen
seen_back g c = sym (ap (λ s. s.seen) c.leave.ensures.kept)

made_back : (g : _) (c : goal.After-leave g) → AllMade MayMake c.leave.new.seat.seen
made_back g c = subst (AllMade MayMake) (seen_back g c) c.enter-kept.ensures.stands.made

pub returns-in_default-clause-err : goal.returns-in_default-clause-err
returns-in_default-clause-err g c = let seat = c.pass.inside.seat in
    subst (λ p. SeesMore p (pass_of c.leave.new.seat c.pass.inside.faults)) c.pass.view_is
    (sees_more seat c.leave.new.seat c.pass.inside.faults (made_back g c) (subst (GoesOn seat.held seat.seen) (seen_back g c) c.enter-kept.ensures.seen) (back g c))

pub returns-in_default-clause-valid : goal.returns-in_default-clause-valid
returns-in_default-clause-valid g c =
    sound c.leave.new.seat c.pass.inside.lane c.pass.inside.faults (still_seated c.pass.inside.seat c.leave.new.seat c.pass.inside.lane c.pass.invariant (back g c) (made_back g c))

-- ---- the event was made

pub leave-requires-2-clause-stands : goal.leave-requires-2-clause-stands
leave-requires-2-clause-stands g c = stands record {
  seated = c.pass.invariant;
  lock = same_first c.pass.inside.seat c.pass.inside.faults c.args.pass.now c.args.self.now c.self.inside.turn c.pass.view_is c.requires.pass c.self.view_is;
  stood = c.enter-kept.ensures.stands;
  meanwhile = c.enter-kept.ensures.seen;
  enters = c.enter-kept.ensures.kept;
  may = subst IsAllowed (sym c.in_ok-op.ensures.ok) c.requires.may;
  made = c.in-Ok.ensures.ok;
  added = c.append.ensures.added;
  writes = c.append.ensures.kept;
  leaves = refl;
}

turn : (g : _) (c : goal.After-pass-1 g)
    → IsTurn c.self.inside.turn.first c.enter-kept.result c.make.new.self c.pass.inside.seat c.enter-kept.new.seat c.append.new.seat c.leave-2.new.seat c.pass.inside.lane c.in-Ok.moment (operation c.in_ok-op.op) c.in-Ok.answer
turn g c = record {
  seated = c.pass.invariant;
  lock = same_first c.pass.inside.seat c.pass.inside.faults c.args.pass.now c.args.self.now c.self.inside.turn c.pass.view_is c.requires.pass c.self.view_is;
  stood = c.enter-kept.ensures.stands;
  meanwhile = c.enter-kept.ensures.seen;
  enters = c.enter-kept.ensures.kept;
  may = subst IsAllowed (sym c.in_ok-op.ensures.ok) c.requires.may;
  made = c.in-Ok.ensures.ok;
  added = c.append.ensures.added;
  writes = c.append.ensures.kept;
  leaves = c.leave-2.ensures.kept;
}

pub invariant_of-pass-2 : goal.invariant_of-pass-2
invariant_of-pass-2 g c = seated_after (turn g c)

pub returns-clause-ok : goal.returns-clause-ok
returns-clause-ok g c = let now = pass_of c.leave-2.new.seat c.count-pass-inside.result in
    subst (λ op. Acts op c.args.pass.now now c.in-Ok.moment c.in-Ok.answer) c.in_ok-op.ensures.ok
    (subst (λ p. Acts (operation c.in_ok-op.op) p now c.in-Ok.moment c.in-Ok.answer) c.pass.view_is
    (acted (turn g c) c.pass.inside.faults c.count-pass-inside.result c.count-pass-inside.ensures.counted))

pub returns-clause-valid : goal.returns-clause-valid
returns-clause-valid g c = sound c.leave-2.new.seat c.pass.inside.lane c.count-pass-inside.result (seated_after (turn g c))

pub returns-clause-script : goal.returns-clause-script
returns-clause-script g c = subst (λ b. FollowsScript b.first.script (entries_of c.leave-2.new.seat.seen)) c.self.view_is (follows (turn g c))

pub returns-clause-scripted : goal.returns-clause-scripted
returns-clause-scripted g c = subst (λ b. FaultsByScript b.first.script c.in-Ok.moment c.in-Ok.answer) c.self.view_is (faults_by_script (turn g c))
