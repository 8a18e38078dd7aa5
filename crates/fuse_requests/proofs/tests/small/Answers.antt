-- A pair has 16 bytes.
use Rattle.std.proofs.Common.{arith}
use Rattle.std.proofs.lemmas.Bool.Decides.{nat_tests}
use Rattle.fuse_requests.proofs.PairTexts.{length-pairs_text}
use Rattle.fuse_requests.proofs.tests.small.Goals as goal

pub returns-in-BatchForget : goal.returns-in-BatchForget
returns-in-BatchForget c = rw c.in-BatchForget.is (grind (arith, nat_tests, length-pairs_text c.in-BatchForget.pairs.items, c.len.ensures))
