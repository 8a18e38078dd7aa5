-- What `own_use` leaves: the exits of failed calls, and the whole text.
use Rattle.std.proofs.Common.{codes, if◌then◌else◌}
use Rattle.std.specs.Fmt.{decimal}
use Rattle.history_text.proofs.PrintLaws.{prints_as, prints_then, stopped, stops_before, stops_then, takes_then}
use Rattle.history_text.proofs.printer.Printer.own_use.Goals as goal

pub returns-in_err-text : goal.returns-in_err-text
returns-in_err-text g c = record {
  puts = stopped _ c.from_residual.result c.from_residual.ensures.0
      (stops_before (if c.args.kept then codes "k" else codes "d") (stops_before (decimal c.args.moment) c.in_err-text.ensures.puts));
}

pub returns-in_err-number : goal.returns-in_err-number
returns-in_err-number g c = record {
  puts = stopped _ c.from_residual-in_err-number.result c.from_residual-in_err-number.ensures.0
      (stops_before (if c.args.kept then codes "k" else codes "d") (stops_then c.in_ok-text.ensures.puts c.in_err-number.ensures.puts));
}

pub returns : goal.returns
returns g c = record {
  puts = prints_then (g.W.Sink.port c.text-2.new.sink) c.text-2.new.self (if c.args.kept then codes "k" else codes "d") c.text-2.result
      (takes_then c.in_ok-text.ensures.puts c.in_ok-number.ensures.puts)
      (prints_as _ _ _ _ c.text-2.result c.kept_letter.ensures c.text-2.ensures.puts);
}
