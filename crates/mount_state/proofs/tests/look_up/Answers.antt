-- The file that is shown is short.
use Rattle.std.proofs.Common.{arith}
use Rattle.mount_state.proofs.ShortLaws.{look_up_short}
use Rattle.mount_state.proofs.tests.look_up.Goals as goal

pub perform-requires-clause-stays : goal.perform-requires-clause-stays
perform-requires-clause-stays c = λ at held is short. look_up_short at held short 1 c.in_ok-name.name c.in_ok-seen.seen.items _ c.in_ok-seen.ensures (omega arith)
