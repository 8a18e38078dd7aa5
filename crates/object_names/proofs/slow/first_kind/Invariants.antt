-- No item so far has the name.
use Rattle.std.proofs.Common.{◌≡◌, drop}
use Rattle.object_names.specs.ShownNames.{first_kind}
use Rattle.object_names.proofs.slow.first_kind.Given as goal

abbrev pub invariant-loop-item : goal.invariant-loop-item
invariant-loop-item l = first_kind l.name (drop l.item-index l.items) ≡ first_kind l.name l.items
