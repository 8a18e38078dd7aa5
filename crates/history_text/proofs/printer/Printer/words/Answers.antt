-- What `words` leaves: its loop.
use Rattle.std.proofs.Common.{◌++◌, codes, sym, arith}
use Rattle.history_text.specs.CodeWords.{word_text}
use Rattle.history_text.proofs.TextLaws.{spaced_map}
use Rattle.history_text.proofs.PrintLaws.{stopped, stops_as, stops_item, takes_as, takes_item, takes_items}
use Rattle.history_text.proofs.printer.Printer.words.Goals as goal

pub returns-in_err-next_word : goal.returns-in_err-next_word
returns-in_err-next_word g c = record {
  puts = stopped _ c.from_residual.result c.from_residual.ensures.0
      (stops_as (sym (spaced_map word_text c.args.words.now))
      (stops_item (λ w. codes " " ++ word_text w) c.args.words.now c.loop-word.word-index c.word-item.result c.word-item.is (omega arith) c.loop-word.invariant c.in_err-next_word.ensures.puts));
}

pub loop-word-preserved : goal.loop-word-preserved
loop-word-preserved g c =
    takes_item (λ w. codes " " ++ word_text w) c.args.words.now c.loop-word.word-index c.word-item.result c.word-item.is (omega arith) c.loop-word.invariant c.in_ok-next_word.ensures.puts

pub returns : goal.returns
returns g c = record {
  puts = takes_as (sym (spaced_map word_text c.args.words.now))
      (takes_items (λ w. codes " " ++ word_text w) c.args.words.now c.loop-word.word-index (omega arith) c.loop-word.invariant);
}
