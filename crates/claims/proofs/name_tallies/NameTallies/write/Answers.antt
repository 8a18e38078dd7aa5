use Rattle.std.proofs.Common.{is_some, sym, ap, ◌∙◌}
use Rattle.std.specs.FinMap as fin
use Rattle.spare_maps.proofs.Views.{get-names}
use Rattle.claims.proofs.NameWrites.{names-set}
use Rattle.claims.proofs.name_tallies.NameTallies.write.Goals as goal

pub unwrap-index-requires : goal.unwrap-index-requires
unwrap-index-requires c =
    c.get_index_of.ensures.found
    ∙ ap is_some (sym (get-names c.self.inside.inner.entries c.args.name.now) ∙ ap (λ n. fin.get n.map c.args.name.now) c.self.view_is)
    ∙ c.requires

pub returns-clause-map : goal.returns-clause-map
returns-clause-map c =
    names-set c.self.inside.inner c.args.name.now c.unwrap-index.result c.args.tally c.get_index_of.ensures.unique (sym c.get_index_of.ensures.index ∙ c.unwrap-index.ensures)
    ∙ ap (λ n. fin.insert n.map c.args.name.now c.args.tally) c.self.view_is
