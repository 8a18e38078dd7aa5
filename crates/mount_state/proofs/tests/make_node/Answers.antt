-- The new file is short.
use Rattle.std.proofs.Common.{arith}
use Rattle.mount_state.proofs.ShortLaws.{mknod_short}
use Rattle.mount_state.proofs.tests.make_node.Goals as goal

pub perform-requires-clause-stays : goal.perform-requires-clause-stays
perform-requires-clause-stays c = λ at held is short. mknod_short at held short 1 c.args.mode c.in_ok-name.name c.in_ok-seen.seen.items _ c.in_ok-seen.ensures (omega arith)
