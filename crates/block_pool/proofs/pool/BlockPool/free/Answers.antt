use Rattle.block_pool.proofs.PoolSteps.{IsPool-filled}
use Rattle.block_pool.proofs.pool.BlockPool.free.Goals as goal

pub returns-clause-valid : goal.returns-clause-valid
returns-clause-valid c = IsPool-filled c.self.inside.links c.self.inside.region c.self.invariant c.args.self.now c.self.view_is c.free.ensures.valid
