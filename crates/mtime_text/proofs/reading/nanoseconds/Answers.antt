-- Nanoseconds are the decimals, filled up to nine places.
use Rattle.std.proofs.Common.{arith}
use Rattle.mtime_text.proofs.DigitLemmas.{scaled_below}
use Rattle.mtime_text.proofs.reading.nanoseconds.Goals as goal

pub overflow_mul-result : goal.overflow_mul-result
overflow_mul-result c =
    let below = scaled_below c.args.places c.args.fraction c.requires.places c.requires.fraction in
    rw c.pow.ensures (omega arith)

pub returns-clause-bound : goal.returns-clause-bound
returns-clause-bound c =
    rw c.pow.ensures (scaled_below c.args.places c.args.fraction c.requires.places c.requires.fraction)
