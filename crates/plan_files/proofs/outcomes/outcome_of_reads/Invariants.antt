-- So far all reads were given bytes.
use Rattle.std.proofs.Common.{◌≡◌, drop}
use Rattle.mount_rules.specs.Reading as reading
use Rattle.plan_files.proofs.outcomes.outcome_of_reads.Given as goal

abbrev pub invariant-loop-answer : goal.invariant-loop-answer
invariant-loop-answer l = reading.reads (drop l.answer-index l.answers) ≡ reading.reads l.answers
