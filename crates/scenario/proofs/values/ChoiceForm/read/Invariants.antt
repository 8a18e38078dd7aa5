-- The word means what it means in the rows that are left, and a meaning that is found is one of the table's.
use Rattle.std.proofs.Common.{◌≡◌, drop}
use Rattle.std.specs.Prelude.{map}
use Rattle.scenario.specs.Walks as walk
use Rattle.scenario.proofs.values.ChoiceForm.read.Given as goal

abbrev pub invariant-loop-name : goal.invariant-loop-name
invariant-loop-name g l = walk.meaning (map (λ row. (row.0.now, row.1)) (drop l.name-index l.self.rows.now)) l.word ≡ walk.meaning (map (λ row. (row.0.now, row.1)) l.self.rows.now) l.word
