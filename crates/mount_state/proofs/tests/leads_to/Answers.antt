-- A READLINK makes no file longer.
use Rattle.mount_state.proofs.ShortLaws.{readlink_short}
use Rattle.mount_state.proofs.tests.leads_to.Goals as goal

pub answer-requires-clause-stays : goal.answer-requires-clause-stays
answer-requires-clause-stays c = λ at held is short. readlink_short at held short c.args.node c.new.result.items
