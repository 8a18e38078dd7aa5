-- What the loop over a name's bytes keeps.
use Rattle.std.proofs.Common.{◌≡◌, take, fold}
use Rattle.record_spec.specs.Steps.{gone, cuts}
use Rattle.stat_records.proofs.stat_records.StatRecords.go_above.Given as goal

-- the cuts of the bytes so far have gone
abbrev pub invariant-loop-at : goal.invariant-loop-at
invariant-loop-at l = l.self ≡ fold gone l.initial.self (cuts (take l.at l.name))
