-- The loop of `objects`: the objects before the next one are printed.
use Rattle.std.specs.List.{flat_map}
use Rattle.history_text.specs.Lines.{object_line}
use Rattle.history_text.specs.Words.{line}
use Rattle.history_text.proofs.PartLaws.{PrintedBefore}
use Rattle.history_text.proofs.printer.Printer.objects.Given as goal

abbrev pub invariant-loop-name : goal.invariant-loop-name
invariant-loop-name g l =
    PrintedBefore (flat_map (λ e. line (object_line e.0 e.1))) l.fn.objects.entries l.name-iterator (g.W.Sink.port l.fn.sink) (g.W.Sink.port l.sink) l.fn.self l.self
