-- A RENAME makes no file longer, and wants no bytes.
use Rattle.mount_state.proofs.ShortLaws.{rename_quiet, rename_short}
use Rattle.mount_state.proofs.removal_tests.rename.Goals as goal

pub perform-requires-clause-stays : goal.perform-requires-clause-stays
perform-requires-clause-stays c = λ at held is short. rename_short at held short 1 1 c.in_ok-name.name c.in_ok-newname.newname c.in_ok-seen.seen.items

pub perform-requires-clause-quiet : goal.perform-requires-clause-quiet
perform-requires-clause-quiet c = λ config held. rename_quiet config held 1 1 c.in_ok-name.name c.in_ok-newname.newname
