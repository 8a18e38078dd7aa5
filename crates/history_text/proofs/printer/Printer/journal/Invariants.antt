-- The loop of `journal`: the items so far are printed.
use Rattle.std.proofs.Common.{take}
use Rattle.std.specs.List.{flat_map}
use Rattle.mount_model.specs.Journal.{entry}
use Rattle.history_text.specs.Lines.{entry_line}
use Rattle.history_text.specs.Words.{line}
use Rattle.history_text.specs.Putting.{Takes}
use Rattle.history_text.proofs.printer.Printer.journal.Given as goal

abbrev pub invariant-loop-entry : goal.invariant-loop-entry
invariant-loop-entry g l = Takes (g.W.Sink.port l.fn.sink) (g.W.Sink.port l.sink) l.fn.self l.self (flat_map (λ e. line (entry_line (entry e))) (take l.entry-index l.journal))
