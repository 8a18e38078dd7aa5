-- The names to show of the parts so far.
use Rattle.std.proofs.Common.{◌≡◌, ◌++◌, true, map, take}
use Rattle.object_names.specs.Paths.{shown_of}
use Rattle.object_names.specs.ShownNames.{listed_parts}
use Rattle.object_names.specs.Slow.{listed_of}
use Rattle.object_names.proofs.slow.names_to_show.Given as goal

abbrev pub invariant-loop-part : goal.invariant-loop-part
invariant-loop-part l = l.names.items ≡ listed_parts (listed_of l.source) ++ map (λ part. shown_of part true) (take l.part-index l.part-items)
