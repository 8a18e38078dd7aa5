-- What `made` leaves: the exits of failed calls, and the whole line.
use Rattle.std.proofs.Common.{sym, [], ◌∷◌}
use Rattle.std.specs.Fmt.{decimal}
use Rattle.bucket_api.specs.Operation.{operation}
use Rattle.history_text.specs.CodeWords.{word_text}
use Rattle.history_text.specs.Lines.{operation_words}
use Rattle.history_text.specs.Words.{spaced}
use Rattle.history_text.proofs.LineLaws.{event_parts}
use Rattle.history_text.proofs.PrintLaws.{prints_as, prints_then, stopped, stops_as, stops_before, stops_then, takes_then}
use Rattle.history_text.proofs.printer.Printer.made.Goals as goal

pub returns-in_err-text : goal.returns-in_err-text
returns-in_err-text g c = record {
  puts = let parts = event_parts c.args.moment c.args.lane c.args.mode (operation c.args.op.now) _ c.mode_name-outcome.ensures in
      stopped _ c.from_residual.result c.from_residual.ensures.0
      (stops_as (sym parts)
      (stops_before (10 ∷ [])
      (stops_before (spaced (operation_words (operation c.args.op.now)))
      (stops_before
      (spaced (decimal c.args.moment ∷ decimal c.args.lane ∷ word_text c.mode_name-outcome.result ∷ []))
      c.in_err-text.ensures.puts))));
}

pub returns-in_err-words : goal.returns-in_err-words
returns-in_err-words g c = record {
  puts = let parts = event_parts c.args.moment c.args.lane c.args.mode (operation c.args.op.now) _ c.mode_name-outcome.ensures in
      stopped _ c.from_residual-in_err-words.result c.from_residual-in_err-words.ensures.0
      (stops_as (sym parts)
      (stops_before (10 ∷ [])
      (stops_before (spaced (operation_words (operation c.args.op.now))) (stops_then c.in_ok-text.ensures.puts c.in_err-words.ensures.puts))));
}

pub returns-in_err-operation : goal.returns-in_err-operation
returns-in_err-operation g c = record {
  puts = let parts = event_parts c.args.moment c.args.lane c.args.mode (operation c.args.op.now) _ c.mode_name-outcome.ensures in
      stopped _ c.from_residual-in_err-operation.result c.from_residual-in_err-operation.ensures.0
      (stops_as (sym parts)
      (stops_before (10 ∷ []) (stops_then (takes_then c.in_ok-text.ensures.puts c.in_ok-words.ensures.puts) c.in_err-operation.ensures.puts)));
}

pub returns : goal.returns
returns g c = record {
  puts = let parts = event_parts c.args.moment c.args.lane c.args.mode (operation c.args.op.now) _ c.mode_name-outcome.ensures in
      prints_as _ _ _ _ c.text-2.result (sym parts)
      (prints_then (g.W.Sink.port c.text-2.new.sink) c.text-2.new.self (10 ∷ []) c.text-2.result
      (takes_then (takes_then c.in_ok-text.ensures.puts c.in_ok-words.ensures.puts) c.in_ok-operation.ensures.puts)
      c.text-2.ensures.puts);
}
