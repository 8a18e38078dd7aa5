use Rattle.std.proofs.Common.{◌≡◌, ◌+◌, ◌-◌, vec_len}
use Rattle.gcsmount.specs.Serve.{longest_input}
use Rattle.gcsmount.specs.Serving.{Progress}
use Rattle.gcsmount.proofs.serve.serve_input.Given as goal

abbrev pub invariant-loop-cutter : goal.invariant-loop-cutter
invariant-loop-cutter g l = record {
  buffer : vec_len l.buffer ≡ 65536;
  so_far : Progress l.config (g.R.Source.port l.initial.source) (g.R.Source.port l.source) (g.W.Sink.port l.initial.sink) (g.W.Sink.port l.sink) l.taken l.cutter l.serial;
}

abbrev pub decreases-loop-cutter : goal.decreases-loop-cutter
decreases-loop-cutter g l = longest_input + 1 - l.taken
