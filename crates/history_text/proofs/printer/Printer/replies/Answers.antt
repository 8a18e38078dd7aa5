-- What `replies` leaves: its loop.
use Rattle.std.proofs.Common.{◌≡◌, ℕ, suc, ◌+◌, List, get_or, drop, take, sym, subst, ap, ◌∙◌, arith}
use Rattle.mount_model.specs.declared.gate.CallId.{CallId}
use Rattle.history_text.specs.HistoryText.{text_of, reply_lines}
use Rattle.history_text.proofs.LineLaws.{replies_to_next, replies_in_two}
use Rattle.history_text.proofs.PrintLaws.{stopped, stops_as, stops_before, stops_then, takes_as, takes_then, item_at}
use Rattle.history_text.proofs.printer.Printer.replies.Goals as goal

abbrev no_call : CallId
no_call = record { lane = 0; index = 0 }

pub returns-in_err-reply : goal.returns-in_err-reply
returns-in_err-reply g c = record {
  puts =
      let i = c.loop-index.index in
      let frame = subst (λ (f : List ℕ). f ≡ get_or c.args.frames.now i f) (sym c.as_slice.ensures.bytes) c.index-frames-index.is in
      let next = replies_to_next c.args.calls.now c.args.frames.now i (get_or c.args.calls.now i no_call) c.as_slice.result.now
      (item_at c.args.calls.now i no_call (omega arith)) frame (omega arith) (omega (arith, c.requires)) in
      stopped _ c.from_residual.result c.from_residual.ensures.0
      (stops_as (sym (replies_in_two c.args.calls.now c.args.frames.now (suc i)))
      (stops_before (text_of (reply_lines (drop (suc i) c.args.calls.now) (drop (suc i) c.args.frames.now)))
      (stops_as (sym next) (stops_then c.loop-index.invariant c.in_err-reply.ensures.puts))));
}

pub loop-index-preserved : goal.loop-index-preserved
loop-index-preserved g c =
    let i = c.loop-index.index in
    let frame = subst (λ (f : List ℕ). f ≡ get_or c.args.frames.now i f) (sym c.as_slice.ensures.bytes) c.index-frames-index.is in
    let next = replies_to_next c.args.calls.now c.args.frames.now i (get_or c.args.calls.now i no_call) c.as_slice.result.now
    (item_at c.args.calls.now i no_call (omega arith)) frame (omega arith) (omega (arith, c.requires)) in
    let more : suc i ≡ i + 1 = omega arith in
    takes_as (sym next ∙ ap (λ n. text_of (reply_lines (take n c.args.calls.now) (take n c.args.frames.now))) more)
    (takes_then c.loop-index.invariant c.in_ok-reply.ensures.puts)
