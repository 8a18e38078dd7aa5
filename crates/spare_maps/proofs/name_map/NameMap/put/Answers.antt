-- A put is the insertion of the bytes of the name.
use Rattle.std.proofs.Common.{Some, string_bytes, ap, ◌∙◌}
use Rattle.std.proofs.lemmas.Map.Text.{hash_map_updates_text}
use Rattle.std.proofs.lemmas.Result.{IfOk-at_ok}
use Rattle.std.specs.FinMap as fin
use Rattle.std.specs.String.{string_eq}
use Rattle.indexmap.specs.IndexMap.{Updates}
use Rattle.spare_maps.specs.SpareMaps.{by_bytes}
use Rattle.spare_maps.proofs.Views.{names-insert}
use Rattle.spare_maps.proofs.name_map.NameMap.put.Goals as goal

pub returns-clause-map : goal.returns-clause-map
returns-clause-map c =
    names-insert c.self.inside.inner.entries c.insert.new.self.entries (string_bytes c.into_string.result) c.args.number
    (hash_map_updates_text (string_bytes c.into_string.result) c.self.inside.inner c.insert.new.self (Some c.args.number)
    (IfOk-at_ok (λ _. Updates string_eq c.self.inside.inner c.insert.new.self c.into_string.result (Some c.args.number)) c.unwrap.ensures c.insert.ensures.updates))
    ∙ ap (λ name. fin.insert (fin.from_entries (by_bytes c.self.inside.inner.entries)) name c.args.number) c.into_string.ensures.bytes
    ∙ ap (λ n. fin.insert n.map c.args.name c.args.number) c.self.view_is
