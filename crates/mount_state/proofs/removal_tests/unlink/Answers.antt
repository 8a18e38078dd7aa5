-- An UNLINK makes no file longer.
use Rattle.mount_state.proofs.ShortLaws.{unlink_short}
use Rattle.mount_state.proofs.removal_tests.unlink.Goals as goal

pub perform-requires-clause-stays : goal.perform-requires-clause-stays
perform-requires-clause-stays c = λ at held is short. unlink_short at held short 1 c.in_ok-name.name c.in_ok-seen.seen.items
