-- So far all answers were bytes.
use Rattle.std.proofs.Common.{◌≡◌, drop}
use Rattle.mount_rules.specs.Requests.Flush as flush
use Rattle.plan_files.proofs.errors.errno_of_flush.Given as goal

abbrev pub invariant-loop-answer : goal.invariant-loop-answer
invariant-loop-answer l = flush.came_of (drop l.answer-index l.answers) ≡ flush.came_of l.answers
