-- The pairs so far are taken back, and those to come will be.
use Rattle.std.proofs.Common.{◌≡◌, drop}
use Rattle.mount_rules.specs.Requests.BatchForget as batch
use Rattle.mount_state.specs.Tables.{mount_of, Uses}
use Rattle.mount_state.proofs.tables.Tables.forget_pairs.Given as goal

abbrev pub invariant-loop-pair : goal.invariant-loop-pair
invariant-loop-pair l = record {
  left : batch.after (drop l.pair-index l.pairs) (mount_of l.self) ≡ batch.after l.pairs (mount_of l.initial.self);
  uses : Uses 0 l.initial.self l.self;
}
