-- The members came in the order of their keys.
use Rattle.scenario.proofs.Keys.{pairs_done}
use Rattle.scenario.proofs.pairs.pairs.Goals as goal

pub returns-clause-good : goal.returns-clause-good
returns-clause-good c = pairs_done c.loop-key.found.items c.from_vec.result.items c.args.members.now.entries c.loop-key.key-iterator c.from_vec.ensures.items c.in-None.ensures.steps.0 c.loop-key.invariant.keys c.len.ensures.ordered
