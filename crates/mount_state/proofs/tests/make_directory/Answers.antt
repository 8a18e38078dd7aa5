-- A directory has no content.
use Rattle.mount_state.proofs.ShortLaws.{mkdir_short}
use Rattle.mount_state.proofs.tests.make_directory.Goals as goal

pub perform-requires-clause-stays : goal.perform-requires-clause-stays
perform-requires-clause-stays c = λ at held is short. mkdir_short at held short c.args.node c.in_ok-name.name c.in_ok-seen.seen.items
