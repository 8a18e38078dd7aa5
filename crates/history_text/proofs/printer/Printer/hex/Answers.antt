-- What `hex` leaves: its loop, and the exit of a failed call.
use Rattle.std.proofs.Common.{◌≡◌, ◌++◌, length, arith, take-append-drop}
use Rattle.std.proofs.lemmas.Bool.Decides.{nat_tests}
use Rattle.history_text.proofs.PartLaws.{digits_by_parts, printed_none, printed_more, printed_stop, printed_all}
use Rattle.history_text.proofs.PrintLaws.{stopped}
use Rattle.history_text.proofs.printer.Printer.hex.Goals as goal

pub loop-rest-init : goal.loop-rest-init
loop-rest-init g c = printed_none digits_by_parts _ _ _

pub returns-in_err-hex_piece : goal.returns-in_err-hex_piece
returns-in_err-hex_piece g c = record {
  puts =
      let cut : c.loop-rest.rest.now ≡ c.split_at.result.0.now ++ c.split_at.result.1.now = cc (take-append-drop c.min.result c.loop-rest.rest.now) in
      stopped _ c.from_residual.result c.from_residual.ensures.0 (printed_stop digits_by_parts _ _ cut c.loop-rest.invariant c.in_err-hex_piece.ensures.puts);
}

pub loop-rest-preserved : goal.loop-rest-preserved
loop-rest-preserved g c =
    let cut : c.loop-rest.rest.now ≡ c.split_at.result.0.now ++ c.split_at.result.1.now = cc (take-append-drop c.min.result c.loop-rest.rest.now) in
    printed_more digits_by_parts _ _ cut c.loop-rest.invariant c.in_ok-hex_piece.ensures.puts

pub returns : goal.returns
returns g c = record {
  puts = let none : length c.loop-rest.rest.now ≡ 0 = grind (arith, nat_tests) in printed_all none c.loop-rest.invariant;
}
