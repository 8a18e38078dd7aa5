-- The moment is the last that is shown.
use Rattle.std.proofs.Common.{sym, ap, ◌∙◌}
use Rattle.mount_rules.specs.Plans.{last_moment}
use Rattle.mount_state.specs.Telling.{ToldList}
use Rattle.mount_state.proofs.ToldLaws.{moment_told}
use Rattle.mount_state.proofs.told.Told.moment.Goals as goal

pub returns : goal.returns
returns c = sym (moment_told c.self.inside.answers.items c.self.inside.moment c.self.invariant) ∙ ap (λ (t : ToldList). last_moment t.items) c.self.view_is
