-- There are as many frames made as given so far.
use Rattle.std.proofs.Common.{◌≡◌, vec_len}
use Rattle.history_text.proofs.tests.frames_of.Given as goal

abbrev pub invariant-loop-frame : goal.invariant-loop-frame
invariant-loop-frame l = vec_len l.made ≡ l.frame-index
