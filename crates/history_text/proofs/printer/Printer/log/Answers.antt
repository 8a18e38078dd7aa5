-- What `log` leaves: its loop.
use Rattle.std.proofs.Common.{◌≡◌, suc, ◌+◌, drop, take, sym, ap, ◌∙◌, arith}
use Rattle.history_text.specs.HistoryText.{text_of, log_lines}
use Rattle.history_text.proofs.LineLaws.{log_to_next, log_in_two}
use Rattle.history_text.proofs.PrintLaws.{stopped, stops_as, stops_before, stops_then, takes_as, takes_then}
use Rattle.history_text.proofs.printer.Printer.log.Goals as goal

pub returns-in_err-event : goal.returns-in_err-event
returns-in_err-event g c = record {
  puts =
      let next = log_to_next 1 c.args.log.now c.loop-index.index c.index-log-index.result c.index-log-index.is (omega arith) in
      stopped _ c.from_residual.result c.from_residual.ensures.0
      (stops_as (sym (log_in_two 1 c.args.log.now (suc c.loop-index.index)))
      (stops_before (text_of (log_lines (suc c.loop-index.index + 1) (drop (suc c.loop-index.index) c.args.log.now)))
      (stops_as (sym next) (stops_then c.loop-index.invariant c.in_err-event.ensures.puts))));
}

pub loop-index-preserved : goal.loop-index-preserved
loop-index-preserved g c =
    let next = log_to_next 1 c.args.log.now c.loop-index.index c.index-log-index.result c.index-log-index.is (omega arith) in
    let more : suc c.loop-index.index ≡ c.loop-index.index + 1 = omega arith in
    takes_as (sym next ∙ ap (λ n. text_of (log_lines 1 (take n c.args.log.now))) more) (takes_then c.loop-index.invariant c.in_ok-event.ensures.puts)
