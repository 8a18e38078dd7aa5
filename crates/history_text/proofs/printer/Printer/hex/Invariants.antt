-- The loop of `hex`: the digits of the bytes before the rest are printed.
use Rattle.std.proofs.Common.{length}
use Rattle.hex.specs.Hex.{encode_lower}
use Rattle.history_text.proofs.PartLaws.{PrintedBefore}
use Rattle.history_text.proofs.printer.Printer.hex.Given as goal

abbrev pub invariant-loop-rest : goal.invariant-loop-rest
invariant-loop-rest g l = PrintedBefore encode_lower l.fn.bytes l.rest (g.W.Sink.port l.fn.sink) (g.W.Sink.port l.sink) l.fn.self l.self

abbrev pub decreases-loop-rest : goal.decreases-loop-rest
decreases-loop-rest g l = length l.rest
