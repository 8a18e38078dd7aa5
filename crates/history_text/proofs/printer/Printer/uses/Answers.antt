-- What `uses` leaves: its loop.
use Rattle.std.proofs.Common.{false, ◌++◌, codes, get_or, sym, arith}
use Rattle.mount_model.specs.declared.journal.Use.{Use}
use Rattle.history_text.specs.Words.{use_word}
use Rattle.history_text.proofs.TextLaws.{spaced_map}
use Rattle.history_text.proofs.PrintLaws.{stopped, stops_as, stops_item, takes_as, takes_item, takes_items, item_at}
use Rattle.history_text.proofs.printer.Printer.uses.Goals as goal

abbrev no_use : Use
no_use = record { moment = 0; own = false; kept = false }

pub returns-in_err-next_word : goal.returns-in_err-next_word
returns-in_err-next_word g c = record {
  puts = stopped _ c.from_residual.result c.from_residual.ensures.0
      (stops_as (sym (spaced_map use_word c.args.uses.now))
      (stops_item (λ u. codes " " ++ use_word u) c.args.uses.now c.loop-learned.learned-index (get_or c.args.uses.now c.loop-learned.learned-index no_use)
      (item_at c.args.uses.now c.loop-learned.learned-index no_use (omega arith)) (omega arith) c.loop-learned.invariant c.in_err-next_word.ensures.puts));
}

pub loop-learned-preserved : goal.loop-learned-preserved
loop-learned-preserved g c =
    takes_item (λ u. codes " " ++ use_word u) c.args.uses.now c.loop-learned.learned-index (get_or c.args.uses.now c.loop-learned.learned-index no_use)
    (item_at c.args.uses.now c.loop-learned.learned-index no_use (omega arith)) (omega arith) c.loop-learned.invariant c.in_ok-next_word.ensures.puts

pub returns : goal.returns
returns g c = record {
  puts = takes_as (sym (spaced_map use_word c.args.uses.now))
      (takes_items (λ u. codes " " ++ use_word u) c.args.uses.now c.loop-learned.learned-index (omega arith) c.loop-learned.invariant);
}
