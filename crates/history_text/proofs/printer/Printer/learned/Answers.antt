-- What `learned` leaves: the exits of failed calls, and the whole text.
use Rattle.std.proofs.Common.{◌≡◌, false, sym}
use Rattle.std.specs.Fmt.{decimal}
use Rattle.history_text.proofs.TextLaws.{use_record}
use Rattle.history_text.proofs.PrintLaws.{prints_as, prints_then, stopped, stops_as, stops_before}
use Rattle.history_text.proofs.printer.Printer.learned.Goals as goal

pub returns-in_err-text : goal.returns-in_err-text
returns-in_err-text g c = record {
  puts = let bare : c.args.learned.own ≡ false = cc in
      stopped _ c.from_residual.result c.from_residual.ensures.0
      (stops_as (sym (use_record c.args.learned bare)) (stops_before (decimal c.args.learned.moment) c.in_err-text.ensures.puts));
}

pub returns : goal.returns
returns g c = record {
  puts = let bare : c.args.learned.own ≡ false = cc in
      prints_as _ _ _ _ c.number.result (sym (use_record c.args.learned bare))
      (prints_then (g.W.Sink.port c.number.new.sink) c.number.new.self (decimal c.args.learned.moment) c.number.result c.in_ok-text.ensures.puts c.number.ensures.puts);
}
