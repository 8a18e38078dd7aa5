-- What `pair` leaves: the exits of failed calls, and the whole text.
use Rattle.std.proofs.Common.{codes}
use Rattle.hex.specs.Hex.{encode_lower}
use Rattle.history_text.proofs.PrintLaws.{prints_then, stopped, stops_before, stops_then, takes_then}
use Rattle.history_text.proofs.printer.Printer.pair.Goals as goal

pub returns-in_err-digits : goal.returns-in_err-digits
returns-in_err-digits g c = record {
  puts = stopped _ c.from_residual.result c.from_residual.ensures.0
      (stops_before (encode_lower c.args.pair.now.value) (stops_before (codes "=") c.in_err-digits.ensures.puts));
}

pub returns-in_err-text : goal.returns-in_err-text
returns-in_err-text g c = record {
  puts = stopped _ c.from_residual-in_err-text.result c.from_residual-in_err-text.ensures.0
      (stops_before (encode_lower c.args.pair.now.value) (stops_then c.in_ok-digits.ensures.puts c.in_err-text.ensures.puts));
}

pub returns : goal.returns
returns g c = record {
  puts = prints_then (g.W.Sink.port c.digits-2.new.sink) c.digits-2.new.self (encode_lower c.args.pair.now.value) c.digits-2.result
      (takes_then c.in_ok-digits.ensures.puts c.in_ok-text.ensures.puts)
      c.digits-2.ensures.puts;
}
