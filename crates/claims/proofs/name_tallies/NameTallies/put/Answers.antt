use Rattle.std.proofs.Common.{Some, string_bytes, ap, ◌∙◌}
use Rattle.std.proofs.lemmas.Map.Text.{hash_map_updates_text}
use Rattle.std.proofs.lemmas.Result.{IfOk-at_ok}
use Rattle.std.specs.FinMap as fin
use Rattle.std.specs.String.{string_eq}
use Rattle.indexmap.specs.IndexMap.{Updates}
use Rattle.spare_maps.specs.SpareMaps.{by_bytes}
use Rattle.spare_maps.proofs.Views.{names-insert}
use Rattle.claims.proofs.name_tallies.NameTallies.put.Goals as goal

pub returns-clause-map : goal.returns-clause-map
returns-clause-map c =
    names-insert c.self.inside.inner.entries c.insert.new.self.entries (string_bytes c.hold-key.result) c.args.tally
    (hash_map_updates_text (string_bytes c.hold-key.result) c.self.inside.inner c.insert.new.self (Some c.args.tally)
    (IfOk-at_ok (λ _. Updates string_eq c.self.inside.inner c.insert.new.self c.hold-key.result (Some c.args.tally)) c.unwrap-2.ensures c.insert.ensures.updates))
    ∙ ap (λ name. fin.insert (fin.from_entries (by_bytes c.self.inside.inner.entries)) name c.args.tally) c.hold-key.ensures.bytes
    ∙ ap (λ n. fin.insert n.map c.args.name.now c.args.tally) c.self.view_is
