-- An answer is told, or becomes the base.
use Rattle.std.proofs.Common.{subst}
use Rattle.mount_core.proofs.CourseLemmas.{awaits_step, saw_bytes, saw_step}
use Rattle.mount_core.specs.Courses.{FitsAnswer}
use Rattle.mount_core.proofs.course.Course.saw.Goals as goal

pub returns-in_default : goal.returns-in_default
returns-in_default c =
    let asking = awaits_step c.args.self.now c.args.self.now.stage c.requires.awaits c.in_default.not-Reading in
    let saw = saw_step c.args.self.now c.args.moment c.args.answer c.push.new.self c.requires.course asking c.requires.fits c.push.ensures in
    record { after = saw.after; course = saw.is; idle = saw.idle }

pub returns-in-Bytes-clause-course : goal.returns-in-Bytes-clause-course
returns-in-Bytes-clause-course c =
    saw_bytes c.args.self.now c.in-Reading.first c.in-Bytes.bytes c.requires.course c.in-Reading.is
    (subst (FitsAnswer c.args.self.now.stage c.args.self.now) c.in-Bytes.is c.requires.fits)
