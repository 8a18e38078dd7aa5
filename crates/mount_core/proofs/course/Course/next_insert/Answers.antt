-- The insert is all that a flush asks.
use Rattle.std.proofs.Common.{sym, subst, ◌∙◌}
use Rattle.std.proofs.lemmas.Result.{err_from_is_err_and}
use Rattle.bucket_api.specs.Operation.{operation}
use Rattle.mount_core.proofs.CourseLemmas.{asking_with, flush_asks_on, insert_asked}
use Rattle.mount_core.proofs.InsertLemmas.{content_short}
use Rattle.mount_core.specs.Courses.{AsksStep}
use Rattle.mount_core.specs.Errands.{IsErrand}
use Rattle.mount_core.specs.declared.errand.Errand.{Errand}
use Rattle.staging_spec.specs.Slices.{Holds}
use Rattle.mount_core.proofs.course.Course.next_insert.Goals as goal

pub returns-in_err-reserve-clause-err : goal.returns-in_err-reserve-clause-err
returns-in_err-reserve-clause-err c =
    let p = err_from_is_err_and c.from_residual.result c.from_residual.ensures.1 in
    rw p.1 (flush_asks_on c.args.self.now c.requires.course c.requires.between c.requires.flush)

pub insert_op-requires-clause-short : goal.insert_op-requires-clause-short
insert_op-requires-clause-short c =
    content_short c.in-Flush.errand c.in-Flush.frozen c.args.self.now.base.first c.as_slice.result.now c.finish-content.result
    (subst IsErrand (sym c.replace.ensures.value ∙ c.in-Flush.is) c.requires.course.errand) c.finish-content.ensures.ok

pub returns-clause-ok : goal.returns-clause-ok
returns-clause-ok c =
    let course = c.args.self.now in
    let asked = insert_asked course c.in-Flush.errand c.in-Flush.frozen c.requires.course c.requires.between (sym c.replace.ensures.value ∙ c.in-Flush.is) c.reserve.new.self
    (operation c.insert_op.result) c.finish-content.result c.insert_op.ensures.ok c.insert_op.ensures.may
    (λ source holds. c.finish-content.ensures.ok source (subst (Holds source course.base.first) (sym c.as_slice.ensures.bytes) holds)) c.in_ok-reserve.ensures.kept c.in_ok-reserve.ensures.ok in
    subst (λ (e : Errand). AsksStep course (asking_with course e c.reserve.new.self) (operation c.insert_op.result)) (sym c.replace.ensures.after) asked.asks
