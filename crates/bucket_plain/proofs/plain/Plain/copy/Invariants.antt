-- The entries so far are copied, in order.
use Rattle.std.proofs.Common.{◌≡◌, ◌++◌}
use Rattle.bucket_plain.proofs.plain.Plain.copy.Given as goal

abbrev pub invariant-loop-name : goal.invariant-loop-name
invariant-loop-name l = l.objects.entries ++ l.name-iterator ≡ l.self-inside.objects.entries
