-- An RMDIR makes no file longer.
use Rattle.mount_state.proofs.ShortLaws.{rmdir_short}
use Rattle.mount_state.proofs.removal_tests.remove_directory.Goals as goal

pub perform-requires-clause-stays : goal.perform-requires-clause-stays
perform-requires-clause-stays c = λ at held is short. rmdir_short at held short 1 c.in_ok-name.name c.in_ok-seen.seen.items
