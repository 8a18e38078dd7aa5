-- Each turn takes the first pair of the merge of what is left; where one row is at its end, the merge is the other row.
use Rattle.std.proofs.Common.{sym, ◌∙◌}
use Rattle.bucket_plain.proofs.Merge.{merge_less, merge_equal, merge_greater, merge_done, others_rise}
use Rattle.bucket_plain.proofs.pairs.merged.Goals as goal

pub returns-in_default : goal.returns-in_default
returns-in_default c = record { ok = c.in_ok-push_copies.ensures.ok ∙ merge_done _ c.loop-kept.pairs.items c.loop-kept.old.now c.loop-kept.new.now c.in_default.ensures.cases c.loop-kept.invariant.rise c.loop-kept.invariant.merged }

pub loop-kept-preserved-in-Less : goal.loop-kept-preserved-in-Less
loop-kept-preserved-in-Less c = record {
  merged = rw c.in_ok-push_copy-in-Less.ensures.ok (merge_less _ c.in-Some.ensures.cases.0 c.in-Some-split_first.ensures.cases.0 c.loop-kept.invariant.rise c.loop-kept.invariant.merged (sym c.cmp.ensures ∙ c.in-Less.is));
  rise = c.loop-kept.invariant.rise;
}

pub loop-kept-preserved-in-Equal : goal.loop-kept-preserved-in-Equal
loop-kept-preserved-in-Equal c = record {
  merged = rw c.in_ok-push_copy-in-Equal.ensures.ok (merge_equal _ c.in-Some.ensures.cases.0 c.in-Some-split_first.ensures.cases.0 c.loop-kept.invariant.rise c.loop-kept.invariant.merged (sym c.cmp.ensures ∙ c.in-Equal.is));
  rise = others_rise _ c.in-Some.ensures.cases.0 c.in-Some-split_first.ensures.cases.0 c.loop-kept.invariant.rise c.loop-kept.invariant.merged;
}

pub loop-kept-preserved : goal.loop-kept-preserved
loop-kept-preserved c = record {
  merged = rw c.in_ok-push_copy-in-Greater.ensures.ok (merge_greater _ c.in-Some.ensures.cases.0 c.in-Some-split_first.ensures.cases.0 c.loop-kept.invariant.rise c.loop-kept.invariant.merged (sym c.cmp.ensures ∙ c.in-Greater.is));
  rise = others_rise _ c.in-Some.ensures.cases.0 c.in-Some-split_first.ensures.cases.0 c.loop-kept.invariant.rise c.loop-kept.invariant.merged;
}
