-- What is asked is made at once.
use Rattle.std.proofs.Common.{[], inr, subst}
use Rattle.std.proofs.lemmas.Result.{err_from_is_err_and}
use Rattle.bucket_api.specs.Operation.{operation}
use Rattle.mount_core.proofs.StepLemmas.{fits_step, steps_on}
use Rattle.mount_core.proofs.WalkLemmas.{asks_on}
use Rattle.mount_core.specs.Courses.{Asks, AsksStep, rest}
use Rattle.mount_core.proofs.carry.step.Goals as goal

pub returns-in_err-moment-in-Make-clause-err : goal.returns-in_err-moment-in-Make-clause-err
returns-in_err-moment-in-Make-clause-err c =
    let p = err_from_is_err_and c.from_residual-in_err-moment-in-Make.result c.from_residual-in_err-moment-in-Make.ensures.1 in
    let asks : AsksStep c.args.course.now c.next.new.self (operation c.in-Make.op) = subst (Asks c.args.course.now c.next.new.self) c.in-Make.is c.in_ok-op.ensures.ok in
    rw p.1 (inr (λ contents holds. asks_on (rest c.args.course.now contents []) (operation c.in-Make.op) (asks.asked contents holds)))

pub saw-requires-in-Make-clause-fits : goal.saw-requires-in-Make-clause-fits
saw-requires-in-Make-clause-fits c =
    let asks : AsksStep c.args.course.now c.next.new.self (operation c.in-Make.op) = subst (Asks c.args.course.now c.next.new.self) c.in-Make.is c.in_ok-op.ensures.ok in
    fits_step c.args.course.now c.next.new.self (operation c.in-Make.op) asks c.args.store.now.bucket c.in_ok-moment-in-Make.answer c.make.ensures.valid c.in_ok-moment-in-Make.ensures.ok.1

pub returns-in_ok-moment-in-Make-clause-ok : goal.returns-in_ok-moment-in-Make-clause-ok
returns-in_ok-moment-in-Make-clause-ok c =
    let asks : AsksStep c.args.course.now c.next.new.self (operation c.in-Make.op) = subst (Asks c.args.course.now c.next.new.self) c.in-Make.is c.in_ok-op.ensures.ok in
    let made = c.in_ok-moment-in-Make.ensures in
    inr (steps_on c.args.course.now c.next.new.self (operation c.in-Make.op) asks c.saw-in-Make.new.self c.in_ok-moment-in-Make.moment c.in_ok-moment-in-Make.answer
    c.args.store.now c.make.new.self made.ok.0 made.ok.1 made.after made.bounded c.saw-in-Make.ensures.after)
