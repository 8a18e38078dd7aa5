use Rattle.std.proofs.Common.{◌≡◌, ◌/◌, false, length, drop, get_or, ap, sym, subst, ◌∙◌, arith, take_at}
use Rattle.staged_file.specs.Frozen.{frozen_content, frozen_wanted}
use Rattle.staging_spec.specs.Slices.{Covers}
use Rattle.staged_file.proofs.Copies.{lacked, filled-content}
use Rattle.staged_file.specs.contracts.frozen.Frozen.{the_view}
use Rattle.staged_file.proofs.frozen.Frozen.finish.Goals as goal

pub fill_untouched-requires-clause-wanted : goal.fill_untouched-requires-clause-wanted
fill_untouched-requires-clause-wanted c i lt f =
    lacked (the_view c.self.inside) c.args.base_first (length c.args.base.now) (subst (λ v. Covers c.args.base_first (length c.args.base.now) (frozen_wanted v)) (sym c.self.view_is) c.requires) i lt
    (ap (λ xs. get_or xs (i / 65536) false) (sym c.as_slice.ensures.value) ∙ f)

pub returns : goal.returns
returns c = record {
  ok = λ source holds.
      let items = c.self.inside.bytes.items in
      let now = c.fill_untouched.new.bytes in
      let len : length now ≡ c.self.inside.bytes.len = omega (arith, c.fill_untouched.auto.bytes, ap length c.as_mut_slice.ensures.value, c.self.inside.bytes.ok.0) in
      c.from_vec.ensures.bytes
      ∙ take_at now (drop (length now) items) c.self.inside.bytes.len len
      ∙ filled-content c.as_slice.result.now c.self.inside.limit source c.as_mut_slice.result.now c.fill_untouched.new.bytes c.fill_untouched.auto.bytes (c.fill_untouched.ensures source holds)
      ∙ (λ i. frozen_content (record { bytes = c.as_mut_slice.ensures.value i; touched = c.as_slice.ensures.value i; limit = c.self.inside.limit }) source)
      ∙ ap (λ v. frozen_content v source) c.self.view_is;
}
