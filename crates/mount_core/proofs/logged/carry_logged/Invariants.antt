-- What was carried out so far; and how many events may still be made, and how many records may still serve.
use Rattle.history_spec.specs.JournalState.{OpenCall}
use Rattle.mount_core.proofs.LoggedEnds.{left_to_do}
use Rattle.mount_core.specs.Courses.{IsCourse, IsIdle}
use Rattle.mount_core.specs.Logged.{CanRead, Carries, IsErrandOf, IsOfBucket, IsServed, ListsAs}
use Rattle.mount_kept.specs.Takings.{IsLeftOf}
use Rattle.mount_rules.specs.Mount.{IsMount, MountModel}
use Rattle.mount_core.proofs.logged.carry_logged.Given as goal

abbrev pub invariant-loop-course : goal.invariant-loop-course
invariant-loop-course l = record {
  carries : (mount : MountModel) (o : OpenCall) → IsMount mount → IsErrandOf l.fn.errand l.fn.second l.fn.lane mount l.fn.bucket o → IsServed l.fn.found mount l.fn.bucket o
      → Carries l.fn.errand l.fn.second mount l.fn.found l.found l.fn.bucket l.bucket o l.course l.notes.items;
  course : IsCourse l.course;
  idle : IsIdle l.course.stage;
  bucket : IsOfBucket l.bucket;
  can : CanRead l.course l.bucket;
  lists : ListsAs l.fn.errand l.course;
  found : IsLeftOf l.found l.fn.found;
}

abbrev pub decreases-loop-course : goal.decreases-loop-course
decreases-loop-course l = left_to_do l.bucket l.found
