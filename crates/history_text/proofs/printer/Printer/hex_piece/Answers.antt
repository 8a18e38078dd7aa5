-- What `hex_piece` leaves: the exit of a failed call.
use Rattle.hex.specs.Hex.{encode_lower}
use Rattle.history_text.proofs.PrintLaws.{stopped, stops_before}
use Rattle.history_text.proofs.printer.Printer.hex_piece.Goals as goal

pub returns-in_err-make_room : goal.returns-in_err-make_room
returns-in_err-make_room g c =
    record { puts = stopped _ c.from_residual.result c.from_residual.ensures.0 (stops_before (encode_lower c.args.bytes.now) c.in_err-make_room.ensures.puts) }
