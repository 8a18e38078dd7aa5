-- What `call` leaves: the exits of failed calls, and the whole text.
use Rattle.std.proofs.Common.{codes}
use Rattle.std.specs.Fmt.{decimal}
use Rattle.history_text.proofs.PrintLaws.{prints_then, stopped, stops_before, stops_then, takes_then}
use Rattle.history_text.proofs.printer.Printer.call.Goals as goal

pub returns-in_err-number : goal.returns-in_err-number
returns-in_err-number g c = record {
  puts = stopped _ c.from_residual.result c.from_residual.ensures.0
      (stops_before (decimal c.args.call.index) (stops_before (codes ".") c.in_err-number.ensures.puts));
}

pub returns-in_err-text : goal.returns-in_err-text
returns-in_err-text g c = record {
  puts = stopped _ c.from_residual-in_err-text.result c.from_residual-in_err-text.ensures.0
      (stops_before (decimal c.args.call.index) (stops_then c.in_ok-number.ensures.puts c.in_err-text.ensures.puts));
}

pub returns : goal.returns
returns g c = record {
  puts = prints_then (g.W.Sink.port c.number-2.new.sink) c.number-2.new.self (decimal c.args.call.index) c.number-2.result
      (takes_then c.in_ok-number.ensures.puts c.in_ok-text.ensures.puts)
      c.number-2.ensures.puts;
}
