-- The loop of `replies`: the replies so far are printed.
use Rattle.std.proofs.Common.{take}
use Rattle.history_text.specs.HistoryText.{text_of, reply_lines}
use Rattle.history_text.specs.Putting.{Takes}
use Rattle.history_text.proofs.printer.Printer.replies.Given as goal

abbrev pub invariant-loop-index : goal.invariant-loop-index
invariant-loop-index g l = Takes (g.W.Sink.port l.fn.sink) (g.W.Sink.port l.sink) l.fn.self l.self (text_of (reply_lines (take l.index l.calls) (take l.index l.frames)))
