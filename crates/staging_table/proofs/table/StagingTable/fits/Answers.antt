-- The blocks that are free are those that the files leave.
use Rattle.std.proofs.Common.{nat_le, ◌∙◌}
use Rattle.staging_table.proofs.Served.{IsServed, served, fits_is}
use Rattle.staging_table.proofs.table.StagingTable.fits.Goals as goal
use Rattle.staging_table.proofs.table.StagingTable.fits.Goals.{After-staged_at-staged}

at : (c : After-staged_at-staged) → IsServed c.self.inside.pool.chains c.args.self.now c.args.node c.args.size c.staged_at-staged.result.now
at c = served _ _ _ _ c.self.invariant c.self.view_is c.args.node c.args.size _ _ c.bare-bare.ensures.value (c.bare-bare.ensures.staged c.self.inside.pool.chains) c.staged_at-staged.ensures

pub needed-requires-clause-staged : goal.needed-requires-clause-staged
needed-requires-clause-staged c = (at c).staged

pub returns : goal.returns
returns c = record {
  ok =
      (λ i. nat_le (c.needed.ensures i) (c.free.ensures.count i))
      ∙ fits_is _ _ _ _ c.self.invariant c.self.view_is c.args.node c.args.size c.staged_at-staged.result.now (at (goal.at.returns c).After-staged_at-staged) c.args.first c.args.count;
}
