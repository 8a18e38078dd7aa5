-- One more answer is shown, and all at its moment.
use Rattle.std.proofs.Common.{◌-◌, List, [], ◌∷◌, ◌++◌, sym, ap, ◌∙◌}
use Rattle.bucket_api.specs.declared.answers.Answer.{Answer}
use Rattle.mount_rules.specs.Plans.{answers_of}
use Rattle.mount_state.specs.Telling.{ToldList, told_by}
use Rattle.mount_state.proofs.ToldLaws.{answers_told}
use Rattle.mount_state.proofs.told.Told.push.Goals as goal

pub returns : goal.returns
returns c =
    let shown = sym (answers_told c.self.inside.answers.items c.self.inside.moment) ∙ ap (λ (t : ToldList). answers_of t.items) c.self.view_is in
    let items = c.push.ensures.items ∙ ap (λ (answers : List Answer). answers ++ c.args.answer ∷ []) shown in
    let spare = c.push.ensures.spare ∙ ap (λ (t : ToldList). t.spare - 1) c.self.view_is in
    λ i. record { items = told_by (items i) c.args.moment; spare = spare i }
