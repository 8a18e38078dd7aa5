use Rattle.block_pool.proofs.PoolSteps.{new_filled, new_shows}
use Rattle.block_pool.proofs.pool.BlockPool.new.Goals as goal

pub invariant_of-result : goal.invariant_of-result
invariant_of-result c = new_filled c.args.blocks c.in_ok-links.links c.in_ok-region.region c.in_ok-links.ensures.ok c.in_ok-region.ensures.ok

pub returns : goal.returns
returns c = record { ok = new_shows c.args.blocks c.in_ok-links.links c.in_ok-region.region c.in_ok-links.ensures.ok c.in_ok-region.ensures.ok }
