-- A copy of what is staged.
use Rattle.std.proofs.Common.{◌≡◌, List, ℕ, IfOk, subst}
use Rattle.staging_spec.specs.StagedFiles.{touched_by}
use Rattle.staging_spec.specs.Overlays.{staging_over}
use Rattle.staging_spec.specs.Wanted.{wanted_by_flush}
use Rattle.staged_file.specs.Frozen.{frozen_content, frozen_wanted}
use Rattle.staging_table.proofs.Served.{IsServed, served}
use Rattle.staging_table.proofs.table.StagingTable.freeze.Goals as goal
use Rattle.staging_table.proofs.table.StagingTable.freeze.Goals.{After-staged_at-staged}

at : (c : After-staged_at-staged) → IsServed c.self.inside.pool.chains c.args.self.now c.args.node c.args.size c.staged_at-staged.result.now
at c = served _ _ _ _ c.self.invariant c.self.view_is c.args.node c.args.size _ _ c.bare-bare.ensures.value (c.bare-bare.ensures.staged c.self.inside.pool.chains) c.staged_at-staged.ensures

pub freeze-requires : goal.freeze-requires
freeze-requires c = (at c).staged

pub returns-clause-ok : goal.returns-clause-ok
returns-clause-ok c =
    subst (λ o. IfOk c.freeze.result (λ frozen. (source : List ℕ) → frozen_content frozen source ≡ (staging_over o source).content))
    (at (goal.at.returns-clause-ok c).After-staged_at-staged).overlay c.freeze.ensures.ok

pub returns-clause-wanted : goal.returns-clause-wanted
returns-clause-wanted c =
    subst (λ o. IfOk c.freeze.result (λ frozen. frozen_wanted frozen ≡ wanted_by_flush (touched_by o) o.limit))
    (at (goal.at.returns-clause-wanted c).After-staged_at-staged).overlay c.freeze.ensures.wanted
