-- What `read_play` leaves: refused options.
use Rattle.cli_words.proofs.FormLaws.{on_err, refused_play}
use Rattle.cli_words.proofs.words.read_play.Goals as goal

pub returns-in_err-workers : goal.returns-in_err-workers
returns-in_err-workers c = record {
  cases = on_err _ c.from_residual.result c.from_residual.ensures.0 (refused_play c.args.rest.now c.in_err-workers.ensures.cases);
}
