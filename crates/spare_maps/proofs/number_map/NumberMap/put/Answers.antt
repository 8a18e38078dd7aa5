-- A put is the insertion of the number.
use Rattle.std.proofs.Common.{Some, ap, ◌∙◌, nat_eq}
use Rattle.std.proofs.lemmas.Result.{IfOk-at_ok}
use Rattle.std.specs.FinMap as fin
use Rattle.indexmap.specs.IndexMap.{Updates}
use Rattle.spare_maps.proofs.Views.{numbers-insert}
use Rattle.spare_maps.proofs.number_map.NumberMap.put.Goals as goal

pub returns-clause-map : goal.returns-clause-map
returns-clause-map g c =
    numbers-insert c.self.inside.inner.entries c.insert.new.self.entries c.args.number c.args.value
    (IfOk-at_ok (λ _. Updates nat_eq c.self.inside.inner c.insert.new.self c.args.number (Some c.args.value)) c.unwrap.ensures c.insert.ensures.updates).0
    ∙ ap (λ n. fin.insert n.map c.args.number c.args.value) c.self.view_is
