-- What is left from here is what the whole is, and the keys so far are those that came.
use Rattle.std.proofs.Common.{◌≡◌, [], ◌++◌}
use Rattle.serde_json.specs.View.{members_view}
use Rattle.scenario.specs.Format as format
use Rattle.scenario.proofs.Keys.{keys_in, keys_of_pairs}
use Rattle.scenario.proofs.pairs.pairs.Given as goal

abbrev pub invariant-loop-key : goal.invariant-loop-key
invariant-loop-key l = record {
  rest : format.pairs l.found.items (members_view l.key-iterator) ≡ format.pairs [] (members_view l.members.entries);
  keys : keys_of_pairs l.found.items ++ keys_in l.key-iterator ≡ keys_in l.members.entries;
}
