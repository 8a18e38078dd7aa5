-- One that wants nothing asks at first what it asks behind its reads.
use Rattle.mount_core.proofs.CourseLemmas.{none_read, unread_between}
use Rattle.mount_core.specs.Errands.{wanted_of}
use Rattle.mount_core.proofs.course.Course.next_read.Goals as goal

pub next_step-requires-clause-course : goal.next_step-requires-clause-course
next_step-requires-clause-course c =
    unread_between c.args.self.now c.requires.course c.requires.unread
    (none_read c.in_ok-op.field-0 (wanted_of c.args.self.now.errand) c.in_default.not-Some c.in_ok-op.ensures.ok)
