-- The loop of `log`: the events so far are printed.
use Rattle.std.proofs.Common.{take}
use Rattle.history_text.specs.HistoryText.{text_of, log_lines}
use Rattle.history_text.specs.Putting.{Takes}
use Rattle.history_text.proofs.printer.Printer.log.Given as goal

abbrev pub invariant-loop-index : goal.invariant-loop-index
invariant-loop-index g l = Takes (g.W.Sink.port l.fn.sink) (g.W.Sink.port l.sink) l.fn.self l.self (text_of (log_lines 1 (take l.index l.log)))
