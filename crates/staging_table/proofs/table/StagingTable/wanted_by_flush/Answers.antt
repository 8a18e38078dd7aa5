-- What a FLUSH wants of what is staged.
use Rattle.std.proofs.Common.{ap, subst, ◌∙◌}
use Rattle.staging_spec.specs.StagedFiles.{touched_by}
use Rattle.staging_spec.specs.Wanted.{IsWithin, wanted_by_flush}
use Rattle.staged_file.specs.Sources.{range_of}
use Rattle.staging_table.proofs.Served.{IsServed, served}
use Rattle.staging_table.proofs.table.StagingTable.wanted_by_flush.Goals as goal
use Rattle.staging_table.proofs.table.StagingTable.wanted_by_flush.Goals.{After-staged_at-staged}

at : (c : After-staged_at-staged) → IsServed c.self.inside.pool.chains c.args.self.now c.args.node c.args.size c.staged_at-staged.result.now
at c = served _ _ _ _ c.self.invariant c.self.view_is c.args.node c.args.size _ _ c.bare-bare.ensures.value (c.bare-bare.ensures.staged c.self.inside.pool.chains) c.staged_at-staged.ensures

pub needs_all-requires : goal.needs_all-requires
needs_all-requires c = (at c).staged

pub returns-clause-ok : goal.returns-clause-ok
returns-clause-ok c = c.needs_all.ensures.ok ∙ ap (λ o. wanted_by_flush (touched_by o) o.limit) (at (goal.at.returns-clause-ok c).After-staged_at-staged).overlay

pub returns-clause-within : goal.returns-clause-within
returns-clause-within c = subst (λ o. IsWithin (range_of c.needs_all.result) o.limit) (at (goal.at.returns-clause-within c).After-staged_at-staged).overlay c.needs_all.ensures.within
