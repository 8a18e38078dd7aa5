-- A FORGET makes no file longer.
use Rattle.mount_state.proofs.ShortLaws.{forget_short}
use Rattle.mount_state.proofs.tests.forget.Goals as goal

pub perform-requires-clause-stays : goal.perform-requires-clause-stays
perform-requires-clause-stays c = λ at held is short. forget_short at held short c.args.node 1 c.new.result.items
