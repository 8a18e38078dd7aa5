-- The entries so far.
use Rattle.std.proofs.Common.{◌≡◌}
use Rattle.object_names.specs.Slow.{items_of}
use Rattle.object_names.proofs.shown.entry_row.Given as goal

abbrev pub invariant-loop-name : goal.invariant-loop-name
invariant-loop-name l = l.items.items ≡ items_of l.yielded
