-- The loop of `uses`: the items so far are printed.
use Rattle.std.proofs.Common.{take, ◌++◌, codes}
use Rattle.std.specs.List.{flat_map}
use Rattle.history_text.specs.Words.{use_word}
use Rattle.history_text.specs.Putting.{Takes}
use Rattle.history_text.proofs.printer.Printer.uses.Given as goal

abbrev pub invariant-loop-learned : goal.invariant-loop-learned
invariant-loop-learned g l = Takes (g.W.Sink.port l.fn.sink) (g.W.Sink.port l.sink) l.fn.self l.self (flat_map (λ u. codes " " ++ use_word u) (take l.learned-index l.uses))
