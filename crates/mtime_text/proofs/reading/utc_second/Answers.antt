-- The second in UTC fits.
use Rattle.std.proofs.Common.{arith}
use Rattle.jiff_core.proofs.SignedLemmas.{signed_arith}
use Rattle.mtime_text.proofs.reading.utc_second.Goals as goal

pub returns : goal.returns
returns c = omega (arith, signed_arith)
