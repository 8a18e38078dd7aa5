-- What `pairs` leaves: the exits of failed calls, and the whole text.
use Rattle.std.proofs.Common.{sym, ◌++◌, codes, ap}
use Rattle.std.specs.List.{flat_map}
use Rattle.history_text.specs.Words.{pair_text, pairs_word}
use Rattle.history_text.proofs.PrintLaws.{prints_as, prints_then, stopped, stops_as, stops_before}
use Rattle.history_text.proofs.printer.Printer.pairs.Goals as goal

pub returns-in_err-pair : goal.returns-in_err-pair
returns-in_err-pair g c = record {
  puts = stopped _ c.from_residual.result c.from_residual.ensures.0
      (stops_as (sym (ap pairs_word c.in-Some.ensures.cases.0))
      (stops_before (flat_map (λ p. codes "," ++ pair_text p) c.in-Some.later.now) c.in_err-pair.ensures.puts));
}

pub returns : goal.returns
returns g c = record {
  puts = prints_as _ _ _ _ c.later_pairs.result (sym (ap pairs_word c.in-Some.ensures.cases.0))
      (prints_then (g.W.Sink.port c.later_pairs.new.sink) c.later_pairs.new.self
      (flat_map (λ p. codes "," ++ pair_text p) c.in-Some.later.now)
      c.later_pairs.result c.in_ok-pair.ensures.puts c.later_pairs.ensures.puts);
}
