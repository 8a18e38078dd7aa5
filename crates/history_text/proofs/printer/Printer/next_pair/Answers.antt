-- What `next_pair` leaves: the exits of failed calls, and the whole text.
use Rattle.history_text.specs.Words.{pair_text}
use Rattle.history_text.proofs.PrintLaws.{prints_then, stopped, stops_before}
use Rattle.history_text.proofs.printer.Printer.next_pair.Goals as goal

pub returns-in_err-text : goal.returns-in_err-text
returns-in_err-text g c = record { puts = stopped _ c.from_residual.result c.from_residual.ensures.0 (stops_before (pair_text c.args.pair.now) c.in_err-text.ensures.puts) }

pub returns : goal.returns
returns g c = record { puts = prints_then (g.W.Sink.port c.pair.new.sink) c.pair.new.self (pair_text c.args.pair.now) c.pair.result c.in_ok-text.ensures.puts c.pair.ensures.puts }
