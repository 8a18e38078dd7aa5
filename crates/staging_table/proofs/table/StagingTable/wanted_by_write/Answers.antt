-- What a WRITE wants of what is staged.
use Rattle.std.proofs.Common.{ap, subst, ◌∙◌}
use Rattle.staging_spec.specs.StagedFiles.{touched_by}
use Rattle.staging_spec.specs.Wanted.{IsWithin, wanted_by_write}
use Rattle.staged_file.specs.Sources.{range_of}
use Rattle.staging_table.proofs.Served.{IsServed, served}
use Rattle.staging_table.proofs.table.StagingTable.wanted_by_write.Goals as goal
use Rattle.staging_table.proofs.table.StagingTable.wanted_by_write.Goals.{After-staged_at-staged}

at : (c : After-staged_at-staged) → IsServed c.self.inside.pool.chains c.args.self.now c.args.node c.args.size c.staged_at-staged.result.now
at c = served _ _ _ _ c.self.invariant c.self.view_is c.args.node c.args.size _ _ c.bare-bare.ensures.value (c.bare-bare.ensures.staged c.self.inside.pool.chains) c.staged_at-staged.ensures

pub needs_write-requires-clause-staged : goal.needs_write-requires-clause-staged
needs_write-requires-clause-staged c = (at c).staged

pub returns-clause-ok : goal.returns-clause-ok
returns-clause-ok c = c.needs_write.ensures.ok ∙ ap (λ o. wanted_by_write (touched_by o) o.limit c.args.first c.args.count) (at (goal.at.returns-clause-ok c).After-staged_at-staged).overlay

pub returns-clause-within : goal.returns-clause-within
returns-clause-within c = subst (λ o. IsWithin (range_of c.needs_write.result) o.limit) (at (goal.at.returns-clause-within c).After-staged_at-staged).overlay c.needs_write.ensures.within
