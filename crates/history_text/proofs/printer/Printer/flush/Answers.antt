-- What `flush` leaves: a sink that fails has a prefix of what waited.
use Rattle.std.proofs.Common.{[], sym, ◌∙◌, append-nil}
use Rattle.history_text.proofs.PrintLaws.{stopped, stops_at}
use Rattle.history_text.proofs.printer.Printer.flush.Goals as goal

pub returns-in_err-put-clause-puts : goal.returns-in_err-put-clause-puts
returns-in_err-put-clause-puts g c =
    stopped _ c.from_residual.result c.from_residual.ensures.0
    (stops_at c.args.self.now [] c.as_slice.result.now
    (append-nil c.args.self.now ∙ sym c.self.view_is ∙ sym c.as_slice.ensures.value) c.in_err-put.ensures.err c.in_err-put.ensures.failed)
