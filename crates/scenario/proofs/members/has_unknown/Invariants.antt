-- One of the members that are left is unknown where one of all is.
use Rattle.std.proofs.Common.{◌≡◌}
use Rattle.std.specs.Prelude.{map}
use Rattle.serde_json.specs.View.{members_view}
use Rattle.scenario.specs.Walks as walk
use Rattle.scenario.proofs.members.has_unknown.Given as goal

abbrev pub invariant-loop-name : goal.invariant-loop-name
invariant-loop-name l = walk.has_unknown (map (λ row. (row.0.now, row.1)) l.table) (walk.names_of (members_view l.name-iterator)) ≡ walk.has_unknown (map (λ row. (row.0.now, row.1)) l.table) (walk.names_of (members_view l.members.entries))
