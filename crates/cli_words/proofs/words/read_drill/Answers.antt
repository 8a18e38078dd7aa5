-- What `read_drill` leaves: refused options.
use Rattle.std.proofs.Common.{◌≡◌, ◌∷◌, rules}
use Rattle.std.specs.Fmt.{decimal}
use Rattle.cli_words.proofs.FormLaws.{on_err, refused_behind}
use Rattle.cli_words.proofs.words.read_drill.Goals as goal

pub returns-in_err-workers : goal.returns-in_err-workers
returns-in_err-workers c = record {
  cases = on_err _ c.from_residual.result c.from_residual.ensures.0
      (refused_behind c.args.rest.now c.in-Some-number.seed c.in-Some.later.now
      (let first : c.args.rest.now ≡ decimal c.in-Some-number.seed ∷ c.in-Some.later.now = search rules in first)
      c.in-Some-number.ensures.cases.0 c.in_err-workers.ensures.cases);
}
