use Rattle.std.proofs.Common.{◌≡◌, ◌+◌, ◌++◌, List, ℕ, length}
use Rattle.std.specs.List.{concat}
use Rattle.gcsmount.specs.Answers.{AnswersAll}
use Rattle.gcsmount.proofs.answer.answer_waiting.Given as goal

-- The frames that waited are those that were answered and those that still wait.
abbrev pub invariant-loop-frame : goal.invariant-loop-frame
invariant-loop-frame g l = record {
  done : List (List ℕ);
  split : l.initial.cutter.held ≡ done ++ l.cutter.held;
  given : l.cutter.given ≡ l.initial.cutter.given + length (concat done);
  rest : l.cutter.rest ≡ l.initial.cutter.rest;
  answered : AnswersAll l.initial.serial l.serial done (g.W.Sink.port l.initial.sink) (g.W.Sink.port l.sink);
}

abbrev pub decreases-loop-frame : goal.decreases-loop-frame
decreases-loop-frame g l = length l.cutter.held
