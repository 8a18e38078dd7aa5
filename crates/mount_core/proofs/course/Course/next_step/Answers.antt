-- What its errand asks next is what its plan asks.
use Rattle.std.proofs.Common.{List, [], ap, subst, sym, ◌∙◌}
use Rattle.bucket_api.specs.Operation.{operation}
use Rattle.bucket_api.specs.declared.answers.Answer.{Answer}
use Rattle.mount_core.proofs.CourseLemmas.{no_flush, step_asked, step_ends}
use Rattle.mount_core.specs.Courses.{IsIdle}
use Rattle.mount_core.specs.Errands.{plan_of}
use Rattle.mount_model.specs.Observing.{next_step}
use Rattle.plan_names.specs.Errands.{MayMake, next_of}
use Rattle.mount_core.proofs.course.Course.next_step.Goals as goal

pub returns-in_ok-reserve-in-Do : goal.returns-in_ok-reserve-in-Do
returns-in_ok-reserve-in-Do c =
    let course = c.args.self.now in
    let next = c.in_ok-op.ensures.ok ∙ ap (λ (answers : List Answer). next_of (plan_of course.errand [] course.second answers)) c.answers.ensures in
    let asked = step_asked course c.requires.course c.requires.between (no_flush course.errand c.in_default.not-Flush) c.reserve.new.self (operation c.in-Do.op) (ap next_step (sym c.in-Do.is) ∙ next)
    (subst (λ n. MayMake (next_step n)) c.in-Do.is c.in_ok-op.ensures.may) c.in_ok-reserve-in-Do.ensures.kept c.in_ok-reserve-in-Do.ensures.ok in
    record { ok = asked.asks; course = (asked.is, asked.room); step = tt; err = tt }

pub returns-in-Finish : goal.returns-in-Finish
returns-in-Finish c =
    let course = c.args.self.now in
    let next = c.in_ok-op.ensures.ok ∙ ap (λ (answers : List Answer). next_of (plan_of course.errand [] course.second answers)) c.answers.ensures in
    record {
      ok = step_ends course c.requires.course c.requires.between (no_flush course.errand c.in_default.not-Flush) (ap next_step (sym c.in-Finish.is) ∙ next);
      course = (c.requires.course, subst IsIdle (sym c.requires.between) tt);
      step = tt;
      err = tt;
    }
