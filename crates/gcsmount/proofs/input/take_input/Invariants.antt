-- The input so far was taken, and is not too long.
use Rattle.std.proofs.Common.{◌≡◌, ◌≤◌, ◌+◌, ◌-◌, length, vec_len}
use Rattle.gcsmount.proofs.input.take_input.Given as goal
use Rattle.gcsmount.specs.Inputs.{Takes}
use Rattle.gcsmount.specs.Serve.{longest_input}

abbrev pub invariant-loop-input : goal.invariant-loop-input
invariant-loop-input g l = record {
  buffer : vec_len l.buffer ≡ 65536;
  within : length l.input.items ≤ longest_input;
  takes : Takes (g.R.Source.port l.initial.source) (g.R.Source.port l.source) l.input.items;
}

abbrev pub decreases-loop-input : goal.decreases-loop-input
decreases-loop-input g l = longest_input + 1 - length l.input.items
