-- What a write took goes behind what the writes before it took.
use Rattle.std.proofs.Common.{ℕ, List, take, subst, arith}
use Rattle.std.specs.Io.KnownBytes.{Appends}
use Rattle.io_ports.proofs.StreamLemmas.{Appends-next}
use Rattle.io_ports.proofs.std_sink.StdSinkSink.put.Goals as goal

pub loop-at-preserved : goal.loop-at-preserved
loop-at-preserved g c = record {
  within = omega (arith, c.in-Ok.ensures.bound);
  same_faults = c.loop-at.invariant.same_faults;
  appended =
      Appends-next _ _ _ _ _ c.args.bytes.now c.loop-at.invariant.appended
      (subst (λ (rest : List ℕ). Appends (g.W.Write.contents c.loop-at.self.to) (g.W.Write.contents c.write.new.self) (take c.in-Ok.count rest)) c.split_at.ensures.back c.in-Ok.ensures.bytes);
}
