-- What was under a name is given, and the name is gone.
use Rattle.std.proofs.Common.{None, sym, ap, ◌∙◌}
use Rattle.std.proofs.lemmas.Map.Text.{hash_map_updates_text}
use Rattle.std.specs.FinMap as fin
use Rattle.spare_maps.proofs.Views.{get-names, names-remove}
use Rattle.spare_maps.proofs.name_map.NameMap.remove.Goals as goal

pub returns-clause-value : goal.returns-clause-value
returns-clause-value c = c.swap_remove.ensures.value ∙ sym (get-names c.self.inside.inner.entries c.args.name.now) ∙ ap (λ n. fin.get n.map c.args.name.now) c.self.view_is

pub returns-clause-map : goal.returns-clause-map
returns-clause-map c =
    names-remove c.self.inside.inner.entries c.swap_remove.new.self.entries c.args.name.now
    (hash_map_updates_text c.args.name.now c.self.inside.inner c.swap_remove.new.self None c.swap_remove.ensures.updates)
    ∙ ap (λ n. fin.remove n.map c.args.name.now) c.self.view_is
