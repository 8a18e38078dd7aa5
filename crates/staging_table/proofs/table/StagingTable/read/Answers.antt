-- Bytes of what is staged.
use Rattle.std.proofs.Common.{◌+◌, ◌≤◌, sym, ap, subst, ◌∙◌, length, take, drop}
use Rattle.staging_spec.specs.StagedFiles.{touched_by}
use Rattle.staging_spec.specs.Overlays.{staging_over}
use Rattle.staging_spec.specs.Slices.{Covers}
use Rattle.staging_spec.specs.Wanted.{wanted_by_read}
use Rattle.staging_table.proofs.Served.{IsServed, served}
use Rattle.staging_table.proofs.table.StagingTable.read.Goals as goal
use Rattle.staging_table.proofs.table.StagingTable.read.Goals.{After-staged_at-staged}

at : (c : After-staged_at-staged) → IsServed c.self.inside.pool.chains c.args.self.now c.args.node c.args.size c.staged_at-staged.result.now
at c = served _ _ _ _ c.self.invariant c.self.view_is c.args.node c.args.size _ _ c.bare-bare.ensures.value (c.bare-bare.ensures.staged c.self.inside.pool.chains) c.staged_at-staged.ensures

pub read-requires-clause-staged : goal.read-requires-clause-staged
read-requires-clause-staged c = (at (goal.at.read-requires-clause-staged c).After-staged_at-staged).staged

pub read-requires-clause-range : goal.read-requires-clause-range
read-requires-clause-range c = subst (λ o. c.args.first + length c.args.out.now ≤ o.size) (sym (at (goal.at.read-requires-clause-range c).After-staged_at-staged).overlay) c.requires.range

pub read-requires-clause-wanted : goal.read-requires-clause-wanted
read-requires-clause-wanted c =
    subst (λ o. Covers c.args.base_first (length c.args.base.now) (wanted_by_read (touched_by o) o.limit c.args.first (length c.args.out.now)))
    (sym (at (goal.at.read-requires-clause-wanted c).After-staged_at-staged).overlay) c.requires.wanted

pub returns : goal.returns
returns c = record {
  ok = λ source holds.
      c.read.ensures.ok source holds
      ∙ ap (λ o. take (length c.args.out.now) (drop c.args.first (staging_over o source).content)) (at (goal.at.returns c).After-staged_at-staged).overlay;
}
