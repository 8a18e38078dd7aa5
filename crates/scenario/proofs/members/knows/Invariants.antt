-- The name is one of the rows that are left where it is one of the table's.
use Rattle.std.proofs.Common.{◌≡◌, drop}
use Rattle.std.specs.Prelude.{map}
use Rattle.scenario.specs.Walks as walk
use Rattle.scenario.proofs.members.knows.Given as goal

abbrev pub invariant-loop-known : goal.invariant-loop-known
invariant-loop-known l = walk.knows (map (λ row. (row.0.now, row.1)) (drop l.known-index l.table)) l.name ≡ walk.knows (map (λ row. (row.0.now, row.1)) l.table) l.name
