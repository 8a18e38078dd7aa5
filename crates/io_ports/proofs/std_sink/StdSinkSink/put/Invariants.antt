-- A writer takes the bytes in pieces, each behind the one before.
use Rattle.std.proofs.Common.{length, ◌-◌, ◌≡◌, ◌≤◌, take}
use Rattle.std.specs.Io.KnownBytes.{Appends}
use Rattle.io_ports.proofs.std_sink.StdSinkSink.put.Given as goal

-- The writer has taken the bytes before `at`, and no call has failed.
abbrev pub invariant-loop-at : goal.invariant-loop-at
invariant-loop-at g l = record {
  within : l.at ≤ length l.bytes;
  same_faults : l.self.faults ≡ l.initial.self.faults;
  appended : Appends (g.W.Write.contents l.initial.self.to) (g.W.Write.contents l.self.to) (take l.at l.bytes);
}

abbrev pub decreases-loop-at : goal.decreases-loop-at
decreases-loop-at g l = length l.bytes - l.at
