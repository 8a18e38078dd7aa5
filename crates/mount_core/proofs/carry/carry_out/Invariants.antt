-- What was carried out so far; and what may still be made.
use Rattle.std.proofs.Common.{◌+◌, ◌-◌, ◌*◌}
use Rattle.mount_core.specs.Carrying.{Carries, weight}
use Rattle.mount_core.specs.Courses.{IsCourse, IsIdle}
use Rattle.mount_core.specs.Stores.{most}
use Rattle.mount_core.proofs.carry.carry_out.Given as goal

abbrev pub invariant-loop-course : goal.invariant-loop-course
invariant-loop-course l = record {
  carries : Carries l.fn.errand l.fn.second l.fn.store l.course l.store;
  course : IsCourse l.course;
  idle : IsIdle l.course.stage;
}

abbrev pub decreases-loop-course : goal.decreases-loop-course
decreases-loop-course l = 2 * (most - l.store.made) + weight l.course.stage
