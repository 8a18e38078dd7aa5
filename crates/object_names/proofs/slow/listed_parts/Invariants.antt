-- The parts of the listed names so far.
use Rattle.std.proofs.Common.{◌≡◌, ◌++◌, map, take}
use Rattle.object_names.specs.ShownNames.{part_of}
use Rattle.object_names.proofs.slow.listed_parts.Given as goal

abbrev pub invariant-loop-item : goal.invariant-loop-item
invariant-loop-item l = l.parts.items ≡ map (part_of l.source.prefix.now) (map (λ item. item.0) (take l.item-index l.items))

abbrev pub invariant-loop-name : goal.invariant-loop-name
invariant-loop-name l = l.parts.items ≡ map (part_of l.source.prefix.now) (map (λ item. item.0) l.source.items.now ++ take l.name-index l.prefixes)
