-- The loop of `later_pairs`: the items so far are printed.
use Rattle.std.proofs.Common.{take, ◌++◌, codes}
use Rattle.std.specs.List.{flat_map}
use Rattle.history_text.specs.Words.{pair_text}
use Rattle.history_text.specs.Putting.{Takes}
use Rattle.history_text.proofs.printer.Printer.later_pairs.Given as goal

abbrev pub invariant-loop-pair : goal.invariant-loop-pair
invariant-loop-pair g l = Takes (g.W.Sink.port l.fn.sink) (g.W.Sink.port l.sink) l.fn.self l.self (flat_map (λ p. codes "," ++ pair_text p) (take l.pair-index l.pairs))
