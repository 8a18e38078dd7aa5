-- What `text` leaves: the exits of a failed call, and a text that is longer than a piece.
use Rattle.std.proofs.Common.{ℕ, List, sym, subst}
use Rattle.history_text.specs.Putting.{Prints}
use Rattle.history_text.proofs.PrintLaws.{stopped, stops_before, prints_then, prints_by_put}
use Rattle.history_text.proofs.printer.Printer.text.Goals as goal

pub returns-in_err-flush : goal.returns-in_err-flush
returns-in_err-flush g c = record { puts = stopped _ c.from_residual.result c.from_residual.ensures.0 (stops_before c.args.text.now c.in_err-flush.ensures.puts) }

pub returns-then-text-gt-PIECE : goal.returns-then-text-gt-PIECE
returns-then-text-gt-PIECE g c = record {
  puts =
      let mid = g.W.Sink.port c.flush.new.sink in
      let after = g.W.Sink.port c.put.new.self in
      let put = prints_by_put mid after c.args.text.now c.put.result c.put.ensures.bytes c.put.ensures.err c.put.ensures.ok c.put.ensures.failed in
      prints_then after c.flush.new.self c.args.text.now c.put.result c.in_ok-flush.ensures.puts
      (subst (λ (w : List ℕ). Prints mid after w w c.args.text.now c.put.result) (sym c.in_ok-flush.ensures.ok) put);
}

pub returns-in_err-make_room : goal.returns-in_err-make_room
returns-in_err-make_room g c = record {
  puts = stopped _ c.from_residual-in_err-make_room.result c.from_residual-in_err-make_room.ensures.0 (stops_before c.args.text.now c.in_err-make_room.ensures.puts);
}
