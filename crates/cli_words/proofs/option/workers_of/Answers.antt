-- What `workers_of` leaves: a number out of range.
use Rattle.std.proofs.Common.{◌∙◌, sym, arith}
use Rattle.std.proofs.lemmas.Fmt.{decimal_injective}
use Rattle.cli_words.proofs.option.workers_of.Goals as goal
use Rattle.cli_words.proofs.option.workers_of.Goals.{then-workers-eq0-via-then-workers-eq0, then-workers-eq0-via-else-workers-eq0+then-workers-gt-MOST_WORKERS}

pub returns-then-workers-eq0 : goal.returns-then-workers-eq0
returns-then-workers-eq0 c = record {
  cases = λ n low high is.
      let cases = c.in-Some.ensures.cases in
      let same = decimal_injective n c.in-Some.workers (omega arith) cases.0 (sym is ∙ cases.1) in
      elim c.then-workers-eq0.branch [
        | then-workers-eq0-via-then-workers-eq0 w ↦ absurd (omega arith)
        | then-workers-eq0-via-else-workers-eq0+then-workers-gt-MOST_WORKERS w ↦ absurd (omega arith)
      ];
}
