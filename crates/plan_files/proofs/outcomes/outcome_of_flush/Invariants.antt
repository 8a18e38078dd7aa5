-- So far all answers were bytes.
use Rattle.std.proofs.Common.{◌≡◌}
use Rattle.mount_rules.specs.Requests.Flush as flush
use Rattle.plan_files.proofs.outcomes.outcome_of_flush.Given as goal

abbrev pub invariant-loop-answer : goal.invariant-loop-answer
invariant-loop-answer l = flush.came_of l.answer-iterator.rest.items ≡ flush.came_of l.fn.answers.items
