-- What is found under a name.
use Rattle.std.proofs.Common.{sym, ap, ◌∙◌}
use Rattle.std.specs.FinMap as fin
use Rattle.spare_maps.proofs.Views.{get-names}
use Rattle.spare_maps.proofs.name_map.NameMap.get.Goals as goal

pub returns : goal.returns
returns c = c.copied.ensures ∙ c.get.ensures.value ∙ sym (get-names c.self.inside.inner.entries c.args.name.now) ∙ ap (λ n. fin.get n.map c.args.name.now) c.self.view_is
