-- The answers are those that are shown.
use Rattle.std.proofs.Common.{sym, ap, ◌∙◌}
use Rattle.mount_rules.specs.Plans.{answers_of}
use Rattle.mount_state.specs.Telling.{ToldList}
use Rattle.mount_state.proofs.ToldLaws.{answers_told}
use Rattle.mount_state.proofs.told.Told.into_answers.Goals as goal

pub returns : goal.returns
returns c = sym (answers_told c.self.inside.answers.items c.self.inside.moment) ∙ ap (λ (t : ToldList). answers_of t.items) c.self.view_is
