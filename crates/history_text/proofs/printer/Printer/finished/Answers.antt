-- What `finished` leaves: the exits of failed calls, and the whole line.
use Rattle.std.proofs.Common.{sym, [], ◌∷◌, map}
use Rattle.std.specs.Fmt.{decimal}
use Rattle.history_text.specs.CodeWords.{word_text}
use Rattle.history_text.specs.Lines.{fill_words}
use Rattle.history_text.specs.Words.{spaced, call_word, use_word}
use Rattle.history_text.proofs.LineLaws.{done_parts}
use Rattle.history_text.proofs.PrintLaws.{prints_as, prints_then, stopped, stops_as, stops_before, stops_then, takes_then}
use Rattle.history_text.proofs.printer.Printer.finished.Goals as goal

pub returns-in_err-text : goal.returns-in_err-text
returns-in_err-text g c = record {
  puts = let parts = done_parts c.args.call c.args.front c.args.how c.args.uses.now c.args.fill _ c.how_name-ending.ensures in
      stopped _ c.from_residual.result c.from_residual.ensures.0
      (stops_as (sym parts)
      (stops_before (10 ∷ [])
      (stops_before (spaced (fill_words c.args.fill))
      (stops_before (spaced (map use_word c.args.uses.now))
      (stops_before
      (spaced (call_word c.args.call ∷ decimal c.args.front ∷ word_text c.how_name-ending.result ∷ []))
      c.in_err-text.ensures.puts)))));
}

pub returns-in_err-words : goal.returns-in_err-words
returns-in_err-words g c = record {
  puts = let parts = done_parts c.args.call c.args.front c.args.how c.args.uses.now c.args.fill _ c.how_name-ending.ensures in
      stopped _ c.from_residual-in_err-words.result c.from_residual-in_err-words.ensures.0
      (stops_as (sym parts)
      (stops_before (10 ∷ [])
      (stops_before (spaced (fill_words c.args.fill))
      (stops_before (spaced (map use_word c.args.uses.now)) (stops_then c.in_ok-text.ensures.puts c.in_err-words.ensures.puts)))));
}

pub returns-in_err-uses : goal.returns-in_err-uses
returns-in_err-uses g c = record {
  puts = let parts = done_parts c.args.call c.args.front c.args.how c.args.uses.now c.args.fill _ c.how_name-ending.ensures in
      stopped _ c.from_residual-in_err-uses.result c.from_residual-in_err-uses.ensures.0
      (stops_as (sym parts)
      (stops_before (10 ∷ [])
      (stops_before (spaced (fill_words c.args.fill))
      (stops_then (takes_then c.in_ok-text.ensures.puts c.in_ok-words.ensures.puts) c.in_err-uses.ensures.puts))));
}

pub returns-in_err-fill : goal.returns-in_err-fill
returns-in_err-fill g c = record {
  puts = let parts = done_parts c.args.call c.args.front c.args.how c.args.uses.now c.args.fill _ c.how_name-ending.ensures in
      stopped _ c.from_residual-in_err-fill.result c.from_residual-in_err-fill.ensures.0
      (stops_as (sym parts)
      (stops_before (10 ∷ [])
      (stops_then
      (takes_then (takes_then c.in_ok-text.ensures.puts c.in_ok-words.ensures.puts) c.in_ok-uses.ensures.puts)
      c.in_err-fill.ensures.puts)));
}

pub returns : goal.returns
returns g c = record {
  puts = let parts = done_parts c.args.call c.args.front c.args.how c.args.uses.now c.args.fill _ c.how_name-ending.ensures in
      prints_as _ _ _ _ c.text-2.result (sym parts)
      (prints_then (g.W.Sink.port c.text-2.new.sink) c.text-2.new.self (10 ∷ []) c.text-2.result
      (takes_then
      (takes_then (takes_then c.in_ok-text.ensures.puts c.in_ok-words.ensures.puts) c.in_ok-uses.ensures.puts)
      c.in_ok-fill.ensures.puts)
      c.text-2.ensures.puts);
}
