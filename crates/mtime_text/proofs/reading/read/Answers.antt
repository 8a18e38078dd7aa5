-- What is read is on the grammar, and what is on the grammar is read.
use Rattle.std.proofs.Common.{ap, ◌∙◌}
use Rattle.mtime_text.specs.Reading.{mtime_of}
use Rattle.mtime_text.proofs.GrammarLemmas.{time_again}
use Rattle.mtime_text.proofs.reading.read.Goals as goal

pub returns-clause-only : goal.returns-clause-only
returns-clause-only c second nanos named =
    c.date_time.ensures ∙ ap mtime_of c.as_bytes.ensures.value ∙ time_again c.args.text.now second nanos named
