-- The loop of `words`: the items so far are printed.
use Rattle.std.proofs.Common.{take, ◌++◌, codes}
use Rattle.std.specs.List.{flat_map}
use Rattle.history_text.specs.CodeWords.{word_text}
use Rattle.history_text.specs.Putting.{Takes}
use Rattle.history_text.proofs.printer.Printer.words.Given as goal

abbrev pub invariant-loop-word : goal.invariant-loop-word
invariant-loop-word g l = Takes (g.W.Sink.port l.fn.sink) (g.W.Sink.port l.sink) l.fn.self l.self (flat_map (λ w. codes " " ++ word_text w) (take l.word-index l.words))
