-- What is asked is made as the next event, or served by what was found.
use Rattle.std.proofs.Common.{◌⊎◌, List, subst, sym}
use Rattle.std.proofs.lemmas.Result.{err_from_is_err_and}
use Rattle.bucket_api.specs.Operation.{operation}
use Rattle.bucket_api.specs.declared.operations.Op.{Op}
use Rattle.mount_core.proofs.LoggedEnds.{stops_step}
use Rattle.mount_core.proofs.LoggedEvents.{asked_one, fits_event}
use Rattle.mount_core.specs.Logged.{AsksIt, StopsMade}
use Rattle.mount_kept.specs.declared.notes.Note.{Note}
use Rattle.mount_core.proofs.logged.step.Goals as goal
use Rattle.mount_core.proofs.logged.step.Goals.{In_ok-reserve, in-Read, in-Read-2}

asked : (c : In_ok-reserve) → AsksIt c.args.course.now c.next.new.self (operation c.match-branch-2.op)
asked c =
    elim c.match-branch-2.branch as (λ b. AsksIt c.args.course.now c.next.new.self (operation c.match-branch-2.op)) [
      | in-Read w ↦ subst (λ (op : Op). AsksIt c.args.course.now c.next.new.self (operation op)) (sym w.op-is)
          (asked_one c.args.course.now c.next.new.self c.in_ok-op.field-0 w.in-Read.op c.in_ok-op.ensures.ok w.in-Read.is)
      | in-Read-2 w ↦ subst (λ (op : Op). AsksIt c.args.course.now c.next.new.self (operation op)) (sym w.op-is)
          (asked_one c.args.course.now c.next.new.self c.in_ok-op.field-0 w.in-Read.op c.in_ok-op.ensures.ok w.in-Read.is)
    ]

pub make-requires-clause-fits : goal.make-requires-clause-fits
make-requires-clause-fits c left moment answer event =
    fits_event c.args.course.now c.next.new.self (operation c.match-branch-2.op) c.args.bucket.now left c.args.lane moment answer
    c.requires.bucket c.requires.bytes event (asked (goal.at.make-requires-clause-fits c).In_ok-reserve)

pub returns-in_err-make-clause-err : goal.returns-in_err-make-clause-err
returns-in_err-make-clause-err c =
    let p = err_from_is_err_and c.from_residual-in_err-make.result c.from_residual-in_err-make.ensures.1 in
    rw p.1 (stops_step c.args.lane c.args.course.now c.next.new.self (operation c.match-branch-2.op) c.args.found.now c.args.bucket.now c.make.new.bucket c.args.notes.now.items c.make.new.notes.items
    (asked (goal.at.returns-in_err-make-clause-err c).In_ok-reserve) (sym c.in_default.ensures.ok)
    (subst (λ (notes : List Note). StopsMade c.args.lane (operation c.match-branch-2.op) c.args.bucket.now c.make.new.bucket notes c.make.new.notes.items) c.in_ok-reserve.ensures.kept c.in_err-make.ensures.err))
