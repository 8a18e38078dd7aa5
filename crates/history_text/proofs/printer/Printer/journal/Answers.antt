-- What `journal` leaves: its loop.
use Rattle.std.proofs.Common.{sym, arith}
use Rattle.mount_model.specs.Journal.{entry}
use Rattle.history_text.specs.Lines.{entry_line}
use Rattle.history_text.specs.Words.{line}
use Rattle.history_text.proofs.LineLaws.{journal_text}
use Rattle.history_text.proofs.PrintLaws.{stopped, stops_as, stops_item, takes_as, takes_item, takes_items}
use Rattle.history_text.proofs.printer.Printer.journal.Goals as goal

pub returns-in_err-entry : goal.returns-in_err-entry
returns-in_err-entry g c = record {
  puts = stopped _ c.from_residual.result c.from_residual.ensures.0
      (stops_as (sym (journal_text c.args.journal.now))
      (stops_item (λ e. line (entry_line (entry e))) c.args.journal.now c.loop-entry.entry-index c.entry-item.result c.entry-item.is (omega arith) c.loop-entry.invariant c.in_err-entry.ensures.puts));
}

pub loop-entry-preserved : goal.loop-entry-preserved
loop-entry-preserved g c =
    takes_item (λ e. line (entry_line (entry e))) c.args.journal.now c.loop-entry.entry-index c.entry-item.result c.entry-item.is (omega arith) c.loop-entry.invariant c.in_ok-entry.ensures.puts

pub returns : goal.returns
returns g c = record {
  puts = takes_as (sym (journal_text c.args.journal.now))
      (takes_items (λ e. line (entry_line (entry e))) c.args.journal.now c.loop-entry.entry-index (omega arith) c.loop-entry.invariant);
}
