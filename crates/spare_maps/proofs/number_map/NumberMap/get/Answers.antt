-- What is found under a number.
use Rattle.std.proofs.Common.{sym, ap, ◌∙◌}
use Rattle.std.specs.FinMap as fin
use Rattle.spare_maps.proofs.Views.{get-numbers}
use Rattle.spare_maps.proofs.number_map.NumberMap.get.Goals as goal

pub returns : goal.returns
returns g c = c.get.ensures.value ∙ sym (get-numbers c.self.inside.inner.entries c.args.number) ∙ ap (λ n. fin.get n.map c.args.number) c.self.view_is
