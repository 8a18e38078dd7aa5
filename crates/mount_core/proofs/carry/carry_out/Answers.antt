-- It comes to its end, or stops short.
use Rattle.std.proofs.Common.{Bool, false, subst, sym}
use Rattle.std.proofs.lemmas.Result.{err_from_is_err_and}
use Rattle.mount_core.proofs.CarryLemmas.{can_read, carried_out, carries_step, stops_listed, stops_so}
use Rattle.mount_core.specs.Carrying.{CarriedOut, Steps, StopsShort}
use Rattle.mount_state.specs.Telling.{ToldList}
use Rattle.mount_state.specs.declared.base.Base.{Base}
use Rattle.mount_core.proofs.carry.carry_out.Goals as goal

pub step-requires-clause-bytes : goal.step-requires-clause-bytes
step-requires-clause-bytes c = can_read c.args.errand c.args.second c.args.store.now c.loop-course.course c.loop-course.store c.loop-course.invariant.carries c.requires.bytes

pub loop-course-preserved : goal.loop-course-preserved
loop-course-preserved c = record {
  carries = carries_step c.args.errand c.args.second c.args.store.now c.loop-course.course c.step.new.course c.loop-course.store c.step.new.store c.loop-course.invariant.carries
      (subst (λ (more : Bool). Steps more c.loop-course.course c.step.new.course c.loop-course.store c.step.new.store) c.if-branch.true c.in_ok-step.ensures.ok);
  course = c.in_ok-step.ensures.course.0;
  idle = c.in_ok-step.ensures.course.1;
}

pub returns-in_err-step-clause-err : goal.returns-in_err-step-clause-err
returns-in_err-step-clause-err c =
    let p = err_from_is_err_and c.from_residual.result c.from_residual.ensures.1 in
    rw p.1 (subst (StopsShort c.args.errand c.args.second c.args.store.now) (sym c.in_err-step.ensures.kept)
    (stops_so c.args.errand c.args.second c.args.store.now c.loop-course.course c.loop-course.store c.loop-course.invariant.carries c.in_err-step.ensures.err))

pub returns-in_err-told-clause-err : goal.returns-in_err-told-clause-err
returns-in_err-told-clause-err c =
    let p = err_from_is_err_and c.from_residual-in_err-told.result c.from_residual-in_err-told.ensures.1 in
    let ended : Steps false c.loop-course.course c.step.new.course c.loop-course.store c.step.new.store =
    subst (λ (more : Bool). Steps more c.loop-course.course c.step.new.course c.loop-course.store c.step.new.store) c.if-branch.false c.in_ok-step.ensures.ok in
    rw p.1 (subst (StopsShort c.args.errand c.args.second c.args.store.now) (sym ended.1)
    (stops_listed c.args.errand c.args.second c.args.store.now c.loop-course.course c.step.new.course c.loop-course.store ended.0 c.loop-course.invariant.carries c.in_err-told.ensures.err))

pub returns-clause-ok : goal.returns-clause-ok
returns-clause-ok c =
    let ended : Steps false c.loop-course.course c.step.new.course c.loop-course.store c.step.new.store =
    subst (λ (more : Bool). Steps more c.loop-course.course c.step.new.course c.loop-course.store c.step.new.store) c.if-branch.false c.in_ok-step.ensures.ok in
    let out = carried_out c.args.errand c.args.second c.args.store.now c.loop-course.course c.step.new.course c.loop-course.store ended.0 c.loop-course.invariant.carries in
    subst (λ (told : ToldList). CarriedOut c.args.errand c.args.second c.args.store.now told c.in_ok-told.base c.step.new.store) (sym c.in_ok-told.ensures.told)
    (subst (λ (base : Base). CarriedOut c.args.errand c.args.second c.args.store.now c.step.new.course.told base c.step.new.store) (sym c.in_ok-told.ensures.base)
    (subst (CarriedOut c.args.errand c.args.second c.args.store.now c.step.new.course.told c.step.new.course.base) (sym ended.1) out))
