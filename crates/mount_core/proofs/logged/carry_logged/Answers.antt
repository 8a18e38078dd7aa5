-- It comes to its end, or stops short.
use Rattle.std.proofs.Common.{Bool, subst, sym, ◌⊎◌}
use Rattle.std.proofs.lemmas.Result.{err_from_is_err_and}
use Rattle.mount_core.proofs.LoggedEnds.{can_read_by, carried_end, left_by, less_to_do, lists_by, lists_end, stops_by, stops_end}
use Rattle.mount_core.proofs.LoggedSteps.{carries_by}
use Rattle.mount_core.specs.Errands.{HoldsEntries}
use Rattle.mount_core.specs.Logged.{Recalls, StepsBy, StepsNot, StepsOn}
use Rattle.mount_rules.specs.Plans.{answers_of}
use Rattle.mount_state.specs.Telling.{ToldList}
use Rattle.mount_core.proofs.logged.carry_logged.Goals as goal
use Rattle.mount_core.proofs.logged.carry_logged.Goals.{After-into_end}

pub loop-course-preserved : goal.loop-course-preserved
loop-course-preserved c =
    let on : StepsOn c.args.lane c.loop-course.course c.step.new.course c.loop-course.found c.step.new.found c.loop-course.bucket c.step.new.bucket c.loop-course.notes.items c.step.new.notes.items
    ⊎ Recalls c.loop-course.course c.step.new.course c.loop-course.found c.step.new.found c.loop-course.bucket c.step.new.bucket c.loop-course.notes.items c.step.new.notes.items =
    subst (λ (more : Bool). StepsBy more c.args.lane c.loop-course.course c.step.new.course c.loop-course.found c.step.new.found c.loop-course.bucket c.step.new.bucket c.loop-course.notes.items c.step.new.notes.items)
    c.if-branch.true c.in_ok-step.ensures.ok in
    record {
      carries = λ mount o valid its served.
          carries_by c.args.errand c.args.second c.args.lane mount valid c.args.bucket.now c.requires.bucket o its c.args.found c.loop-course.course c.step.new.course c.loop-course.found c.step.new.found
          c.loop-course.bucket c.step.new.bucket c.loop-course.notes.items c.step.new.notes.items c.requires.bytes c.loop-course.invariant.found served
          (c.loop-course.invariant.carries mount o valid its served) on;
      course = c.in_ok-step.ensures.course.0;
      idle = c.in_ok-step.ensures.course.1;
      bucket = c.in_ok-step.ensures.bucket;
      can = can_read_by c.args.lane c.loop-course.course c.step.new.course c.loop-course.found c.step.new.found c.loop-course.bucket c.step.new.bucket c.loop-course.notes.items c.step.new.notes.items on;
      lists = lists_by c.args.lane c.loop-course.course c.step.new.course c.loop-course.found c.step.new.found c.loop-course.bucket c.step.new.bucket c.loop-course.notes.items c.step.new.notes.items
          c.args.errand on c.loop-course.invariant.lists;
      found = left_by c.args.lane c.loop-course.course c.step.new.course c.loop-course.found c.step.new.found c.loop-course.bucket c.step.new.bucket c.loop-course.notes.items c.step.new.notes.items
          c.args.found on c.loop-course.invariant.found;
    }

pub loop-course-smaller : goal.loop-course-smaller
loop-course-smaller c =
    less_to_do c.args.lane c.loop-course.course c.step.new.course c.loop-course.found c.step.new.found c.loop-course.bucket c.step.new.bucket c.loop-course.notes.items c.step.new.notes.items
    (subst (λ (more : Bool). StepsBy more c.args.lane c.loop-course.course c.step.new.course c.loop-course.found c.step.new.found c.loop-course.bucket c.step.new.bucket c.loop-course.notes.items c.step.new.notes.items)
    c.if-branch.true c.in_ok-step.ensures.ok)

pub returns-in_err-step-clause-err : goal.returns-in_err-step-clause-err
returns-in_err-step-clause-err c =
    let p = err_from_is_err_and c.from_residual.result c.from_residual.ensures.1 in
    rw p.1 (λ mount o valid its served.
    stops_by c.args.errand c.args.second c.args.lane mount valid c.args.bucket.now c.requires.bucket o its c.args.found c.loop-course.found c.loop-course.bucket c.step.new.bucket
    c.loop-course.notes.items c.step.new.notes.items c.loop-course.course (c.loop-course.invariant.carries mount o valid its served) c.in_err-step.ensures.err)

-- it asked nothing more
ended : (c : After-into_end) → StepsNot c.loop-course.course c.step.new.course c.loop-course.bucket c.step.new.bucket c.loop-course.notes.items c.step.new.notes.items
ended c =
    subst (λ (more : Bool). StepsBy more c.args.lane c.loop-course.course c.step.new.course c.loop-course.found c.step.new.found c.loop-course.bucket c.step.new.bucket c.loop-course.notes.items c.step.new.notes.items)
    c.if-branch.false c.in_ok-step.ensures.ok

pub returns-in_err-told-clause-err : goal.returns-in_err-told-clause-err
returns-in_err-told-clause-err c =
    let p = err_from_is_err_and c.from_residual-in_err-told.result c.from_residual-in_err-told.ensures.1 in
    let end = ended (goal.at.returns-in_err-told-clause-err c).After-into_end in
    rw p.1 (λ mount o valid its served.
    stops_end c.args.errand c.args.second c.args.lane mount valid c.args.bucket.now c.requires.bucket o its c.args.found c.loop-course.found c.loop-course.course c.step.new.course c.loop-course.bucket c.step.new.bucket
    c.loop-course.notes.items c.step.new.notes.items (c.loop-course.invariant.carries mount o valid its served) end
    ((lists_end c.args.errand c.loop-course.course c.step.new.course end.nothing c.loop-course.invariant.lists).lists c.in_err-told.ensures.err))

pub returns-clause-ok : goal.returns-clause-ok
returns-clause-ok c = λ mount o valid its served.
    carried_end c.args.errand c.args.second c.args.lane mount valid c.args.bucket.now c.requires.bucket o its c.args.found c.loop-course.found c.loop-course.course c.step.new.course c.loop-course.bucket c.step.new.bucket
    c.loop-course.notes.items c.step.new.notes.items (c.loop-course.invariant.carries mount o valid its served) (ended (goal.at.returns-clause-ok c).After-into_end)
    c.in_ok-told.told c.in_ok-told.base c.in_ok-told.ensures.told c.in_ok-told.ensures.base

pub returns-clause-entries : goal.returns-clause-entries
returns-clause-entries c =
    (lists_end c.args.errand c.loop-course.course c.step.new.course (ended (goal.at.returns-clause-entries c).After-into_end).nothing c.loop-course.invariant.lists).entries
    c.args.implicit (answers_of c.in_ok-told.told.items) c.in_ok-told.items.items
    (subst (λ (t : ToldList). HoldsEntries c.step.new.course.errand c.args.implicit (answers_of t.items) c.in_ok-told.items.items) (sym c.in_ok-told.ensures.told) c.in_ok-told.ensures.entries)
