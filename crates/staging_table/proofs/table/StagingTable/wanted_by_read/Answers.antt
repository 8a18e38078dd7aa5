-- What a READ wants of what is staged.
use Rattle.std.proofs.Common.{◌+◌, ◌≤◌, sym, ap, subst, ◌∙◌}
use Rattle.staging_spec.specs.StagedFiles.{touched_by}
use Rattle.staging_spec.specs.Wanted.{IsWithin, wanted_by_read}
use Rattle.staged_file.specs.Sources.{range_of}
use Rattle.staging_table.proofs.Served.{IsServed, served}
use Rattle.staging_table.proofs.table.StagingTable.wanted_by_read.Goals as goal
use Rattle.staging_table.proofs.table.StagingTable.wanted_by_read.Goals.{After-staged_at-staged}

at : (c : After-staged_at-staged) → IsServed c.self.inside.pool.chains c.args.self.now c.args.node c.args.size c.staged_at-staged.result.now
at c = served _ _ _ _ c.self.invariant c.self.view_is c.args.node c.args.size _ _ c.bare-bare.ensures.value (c.bare-bare.ensures.staged c.self.inside.pool.chains) c.staged_at-staged.ensures

pub needs_read-requires-clause-staged : goal.needs_read-requires-clause-staged
needs_read-requires-clause-staged c = (at c).staged

pub needs_read-requires-clause-range : goal.needs_read-requires-clause-range
needs_read-requires-clause-range c = subst (λ o. c.args.first + c.args.count ≤ o.size) (sym (at c).overlay) c.requires.range

pub returns-clause-ok : goal.returns-clause-ok
returns-clause-ok c = c.needs_read.ensures.ok ∙ ap (λ o. wanted_by_read (touched_by o) o.limit c.args.first c.args.count) (at (goal.at.returns-clause-ok c).After-staged_at-staged).overlay

pub returns-clause-within : goal.returns-clause-within
returns-clause-within c = subst (λ o. IsWithin (range_of c.needs_read.result) o.limit) (at (goal.at.returns-clause-within c).After-staged_at-staged).overlay c.needs_read.ensures.within
