use Rattle.std.proofs.Common.{◌∙◌}
use Rattle.block_pool.proofs.PoolSteps.{given_back}
use Rattle.block_pool.proofs.pool.BlockPool.give.Goals as goal

pub returns-clause-ok : goal.returns-clause-ok
returns-clause-ok c = c.cut_from.ensures.ok ∙ given_back c.args.self.now c.args.chain c.cut_from.new.chain c.cut_from.ensures.head
