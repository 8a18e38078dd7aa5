use Rattle.std.proofs.Common.{None, ap, ◌∙◌}
use Rattle.std.proofs.lemmas.Map.Text.{hash_map_updates_text}
use Rattle.std.specs.FinMap as fin
use Rattle.spare_maps.proofs.Views.{names-remove}
use Rattle.claims.proofs.name_tallies.NameTallies.remove.Goals as goal

pub returns-clause-map : goal.returns-clause-map
returns-clause-map c =
    names-remove c.self.inside.inner.entries c.swap_remove.new.self.entries c.args.name.now
    (hash_map_updates_text c.args.name.now c.self.inside.inner c.swap_remove.new.self None c.swap_remove.ensures.updates)
    ∙ ap (λ n. fin.remove n.map c.args.name.now) c.self.view_is
