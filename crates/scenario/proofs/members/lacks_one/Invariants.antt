-- The object lacks one of the rows that are left where it lacks one of the table's.
use Rattle.std.proofs.Common.{◌≡◌, drop}
use Rattle.std.specs.Prelude.{map}
use Rattle.serde_json.specs.View.{view}
use Rattle.scenario.specs.Walks as walk
use Rattle.scenario.proofs.members.lacks_one.Given as goal

abbrev pub invariant-loop-name : goal.invariant-loop-name
invariant-loop-name l = walk.lacks_one (map (λ row. (row.0.now, row.1)) (drop l.name-index l.table)) (view l.value) ≡ walk.lacks_one (map (λ row. (row.0.now, row.1)) l.table) (view l.value)
