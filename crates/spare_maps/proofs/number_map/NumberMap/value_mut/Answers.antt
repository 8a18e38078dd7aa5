-- What is written through the lent value stands under its number.
use Rattle.std.proofs.Common.{◌≡◌, nat_eq, slice_get, is_some, refl, sym, ap, ◌∙◌}
use Rattle.std.proofs.lemmas.Option.{MatchOption-at_some}
use Rattle.std.specs.Bool.{⊤}
use Rattle.std.specs.FinMap as fin
use Rattle.indexmap.specs.IndexMap.{get, values}
use Rattle.spare_maps.proofs.Views.{get-numbers, numbers-set}
use Rattle.spare_maps.proofs.number_map.NumberMap.value_mut.Goals as goal

pub unwrap-index-requires : goal.unwrap-index-requires
unwrap-index-requires g c =
    c.get_index_of.ensures.found
    ∙ ap is_some (sym (get-numbers c.self.inside.inner.entries c.args.number) ∙ ap (λ n. fin.get n.map c.args.number) c.self.view_is)
    ∙ c.requires

pub returns : goal.returns
returns g c = (
  (
    refl,
    λ w. λ i. record {
      map = (numbers-set c.self.inside.inner.entries c.args.number c.unwrap-index.result w (sym c.get_index_of.ensures.index ∙ c.unwrap-index.ensures)
          ∙ ap (λ n. fin.insert n.map c.args.number w) c.self.view_is) i;
      spare = ap (λ n. n.spare) c.self.view_is i;
    },
  ),
  record {
    writes_back = tt;
    value =
        ap (λ n. fin.get n.map c.args.number) (sym c.self.view_is)
        ∙ get-numbers c.self.inside.inner.entries c.args.number
        ∙ sym (MatchOption-at_some ⊤ (λ i. slice_get (values c.self.inside.inner) i ≡ get nat_eq c.self.inside.inner c.args.number) c.unwrap-index.result c.unwrap-index.ensures c.get_index_of.ensures.value)
        ∙ c.index_mut.ensures.value;
  },
)
