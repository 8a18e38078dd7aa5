-- The object of a link is short.
use Rattle.std.proofs.Common.{arith}
use Rattle.mount_state.proofs.ShortLaws.{symlink_short}
use Rattle.mount_state.proofs.tests.make_link.Goals as goal

pub perform-requires-clause-stays : goal.perform-requires-clause-stays
perform-requires-clause-stays c = λ at held is short. symlink_short at held short 1 c.in_ok-name.name c.in_ok-target.target c.in_ok-seen.seen.items _ c.in_ok-seen.ensures (omega arith)
