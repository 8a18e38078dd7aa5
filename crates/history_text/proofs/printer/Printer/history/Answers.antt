-- What `history` leaves: the exits of failed calls, and the whole text.
use Rattle.std.proofs.Common.{[], ◌∷◌, length, codes, sym, ap, ◌∙◌, append-nil}
use Rattle.mount_model.specs.Journal.{entries}
use Rattle.history_text.specs.HistoryText.{History, text_of, reply_lines, object_lines, log_lines, journal_lines}
use Rattle.history_text.specs.Words.{line}
use Rattle.history_text.proofs.TextLaws.{text_of_parts}
use Rattle.history_text.proofs.PrintLaws.{stopped, stops_before, stops_then, stops_as, takes_then, takes_as, prints_then, prints_as}
use Rattle.history_text.proofs.printer.Printer.history.Goals as goal

pub returns-in_err-replies-clause-puts : goal.returns-in_err-replies-clause-puts
returns-in_err-replies-clause-puts g c =
    stopped _ c.from_residual.result c.from_residual.ensures.0
    (stops_as (text_of_parts _ _ c.played.view_is)
    (stops_before (line (codes "end" ∷ []))
    (stops_before
    (text_of (journal_lines (entries c.played.inside.journal.items)))
    (stops_before (text_of (log_lines 1 c.played.inside.log.items))
    (stops_before (text_of (object_lines c.played.inside.bucket))
    (stops_as (λ k. text_of (reply_lines (c.as_slice.ensures.items k) (c.as_slice-2.ensures.items k))) c.in_err-replies.ensures.puts))))))

pub returns-in_err-bucket-clause-puts : goal.returns-in_err-bucket-clause-puts
returns-in_err-bucket-clause-puts g c =
    stopped _ c.from_residual-in_err-bucket.result c.from_residual-in_err-bucket.ensures.0
    (stops_as (text_of_parts _ _ c.played.view_is)
    (stops_before (line (codes "end" ∷ []))
    (stops_before
    (text_of (journal_lines (entries c.played.inside.journal.items)))
    (stops_before (text_of (log_lines 1 c.played.inside.log.items))
    (stops_then
    (takes_as (λ k. text_of (reply_lines (c.as_slice.ensures.items k) (c.as_slice-2.ensures.items k))) c.in_ok-replies.ensures.puts)
    c.in_err-bucket.ensures.puts)))))

pub returns-in_err-log-clause-puts : goal.returns-in_err-log-clause-puts
returns-in_err-log-clause-puts g c =
    stopped _ c.from_residual-in_err-log.result c.from_residual-in_err-log.ensures.0
    (stops_as (text_of_parts _ _ c.played.view_is)
    (stops_before (line (codes "end" ∷ []))
    (stops_before
    (text_of (journal_lines (entries c.played.inside.journal.items)))
    (stops_then
    (takes_then
    (takes_as (λ k. text_of (reply_lines (c.as_slice.ensures.items k) (c.as_slice-2.ensures.items k))) c.in_ok-replies.ensures.puts)
    c.in_ok-bucket.ensures.puts)
    (stops_as (λ k. text_of (log_lines 1 (c.as_slice-3.ensures.items k))) c.in_err-log.ensures.puts)))))

pub returns-in_err-journal-clause-puts : goal.returns-in_err-journal-clause-puts
returns-in_err-journal-clause-puts g c =
    stopped _ c.from_residual-in_err-journal.result c.from_residual-in_err-journal.ensures.0
    (stops_as (text_of_parts _ _ c.played.view_is)
    (stops_before (line (codes "end" ∷ []))
    (stops_then
    (takes_then
    (takes_then
    (takes_as (λ k. text_of (reply_lines (c.as_slice.ensures.items k) (c.as_slice-2.ensures.items k))) c.in_ok-replies.ensures.puts)
    c.in_ok-bucket.ensures.puts)
    (takes_as (λ k. text_of (log_lines 1 (c.as_slice-3.ensures.items k))) c.in_ok-log.ensures.puts))
    (stops_as (λ k. text_of (journal_lines (entries (c.as_slice-4.ensures.items k)))) c.in_err-journal.ensures.puts))))

pub returns-in_err-line-clause-puts : goal.returns-in_err-line-clause-puts
returns-in_err-line-clause-puts g c =
    stopped _ c.from_residual-in_err-line.result c.from_residual-in_err-line.ensures.0
    (stops_as (text_of_parts _ _ c.played.view_is)
    (stops_then
    (takes_then
    (takes_then
    (takes_then
    (takes_as (λ k. text_of (reply_lines (c.as_slice.ensures.items k) (c.as_slice-2.ensures.items k))) c.in_ok-replies.ensures.puts)
    c.in_ok-bucket.ensures.puts)
    (takes_as (λ k. text_of (log_lines 1 (c.as_slice-3.ensures.items k))) c.in_ok-log.ensures.puts))
    (takes_as (λ k. text_of (journal_lines (entries (c.as_slice-4.ensures.items k)))) c.in_ok-journal.ensures.puts))
    c.in_err-line.ensures.puts))

pub returns-clause-puts : goal.returns-clause-puts
returns-clause-puts g c =
    prints_as _ _ _ _ c.flush.result (append-nil _ ∙ text_of_parts _ _ c.played.view_is)
    (prints_then (g.W.Sink.port c.flush.new.sink) c.flush.new.self [] c.flush.result
    (takes_then
    (takes_then
    (takes_then
    (takes_then
    (takes_as (λ k. text_of (reply_lines (c.as_slice.ensures.items k) (c.as_slice-2.ensures.items k))) c.in_ok-replies.ensures.puts)
    c.in_ok-bucket.ensures.puts)
    (takes_as (λ k. text_of (log_lines 1 (c.as_slice-3.ensures.items k))) c.in_ok-log.ensures.puts))
    (takes_as (λ k. text_of (journal_lines (entries (c.as_slice-4.ensures.items k)))) c.in_ok-journal.ensures.puts))
    c.in_ok-line.ensures.puts)
    c.flush.ensures.puts)

pub replies-requires : goal.replies-requires
replies-requires g c =
    ap length c.as_slice-2.ensures.items ∙ ap (λ (h : History). length h.replies) c.played.view_is ∙ c.requires.answered
    ∙ sym (ap (λ (h : History). length h.calls) c.played.view_is) ∙ sym (ap length c.as_slice.ensures.items)
