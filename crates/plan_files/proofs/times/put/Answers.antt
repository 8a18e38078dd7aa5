-- The pair stands before the first one above it, in the place of its equal, or behind what is below.
use Rattle.std.proofs.Common.{◌++◌, List, length, ap, sym, ◌∙◌, arith}
use Rattle.std.proofs.lemmas.Result.{on_ok_weaker}
use Rattle.bucket_api.specs.declared.objects.Pair.{Pair}
use Rattle.plan_files.proofs.PairLemmas.{put_before, put_behind, put_in_place}
use Rattle.plan_files.proofs.times.put.Goals as goal

pub returns-in-Less : goal.returns-in-Less
returns-in-Less c =
    let put = put_before c.pairs.row.items c.args.one c.in-Some.ensures.cases.0 (sym c.cmp.ensures ∙ c.in-Less.is) in
    on_ok_weaker c.copy_behind.result (λ same. same ∙ ap (λ (items : List Pair). items ++ c.pairs.rest.now) c.push.ensures.items ∙ put ∙ c.pairs.invariant.put) c.copy_behind.ensures

pub returns-in-Equal : goal.returns-in-Equal
returns-in-Equal c =
    let put = put_in_place c.pairs.row.items c.args.one c.in-Some.ensures.cases.0 (sym c.cmp.ensures ∙ c.in-Equal.is) in
    on_ok_weaker c.copy_behind-in-Equal.result (λ same. same ∙ ap (λ (items : List Pair). items ++ c.in-Some.later.now) c.push-in-Equal.ensures.items ∙ put ∙ c.pairs.invariant.put) c.copy_behind-in-Equal.ensures

pub pairs-preserved : goal.pairs-preserved
pairs-preserved c = record {
  put = rw (c.push-in-Greater.ensures.items, c.in_ok-copy-in-Greater.ensures.ok)
      (put_behind c.pairs.row.items c.args.one c.in-Some.ensures.cases.0 (sym c.cmp.ensures ∙ c.in-Greater.is) ∙ c.pairs.invariant.put);
  room = grind (arith, c.push-in-Greater.ensures.spare, c.pairs.invariant.room, ap length c.in-Some.ensures.cases.0);
}
