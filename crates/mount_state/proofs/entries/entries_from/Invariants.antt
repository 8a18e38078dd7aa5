-- The entries so far and those that still fit are all that fit.
use Rattle.std.proofs.Common.{◌≡◌, ◌+◌, ◌++◌, drop}
use Rattle.mount_rules.specs.Requests.Readdir.{fitting}
use Rattle.mount_state.proofs.entries.entries_from.Given as goal

abbrev pub invariant-loop-item : goal.invariant-loop-item
invariant-loop-item l = record {
  taken : l.entries.items ++ fitting l.position l.room (drop l.item-index l.rest) ≡ fitting l.first l.size l.rest;
  place : l.position ≡ l.first + l.item-index;
}
