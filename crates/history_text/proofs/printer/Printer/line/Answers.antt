-- What `line` leaves: the exits of failed calls, and the whole text.
use Rattle.std.proofs.Common.{[], ◌∷◌, map}
use Rattle.history_text.specs.CodeWords.{word_text}
use Rattle.history_text.specs.Words.{spaced}
use Rattle.history_text.proofs.PrintLaws.{prints_then, stopped, stops_before, stops_then, takes_then}
use Rattle.history_text.proofs.printer.Printer.line.Goals as goal

pub returns-in_err-text : goal.returns-in_err-text
returns-in_err-text g c = record {
  puts = stopped _ c.from_residual.result c.from_residual.ensures.0
      (stops_before (10 ∷ []) (stops_before (spaced (map word_text c.args.words.now)) c.in_err-text.ensures.puts));
}

pub returns-in_err-words : goal.returns-in_err-words
returns-in_err-words g c = record {
  puts = stopped _ c.from_residual-in_err-words.result c.from_residual-in_err-words.ensures.0
      (stops_before (10 ∷ []) (stops_then c.in_ok-text.ensures.puts c.in_err-words.ensures.puts));
}

pub returns : goal.returns
returns g c = record {
  puts = prints_then (g.W.Sink.port c.text-2.new.sink) c.text-2.new.self (10 ∷ []) c.text-2.result
      (takes_then c.in_ok-text.ensures.puts c.in_ok-words.ensures.puts)
      c.text-2.ensures.puts;
}
