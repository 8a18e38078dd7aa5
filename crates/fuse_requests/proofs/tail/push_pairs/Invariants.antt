-- What was appended and what is still to come are all pairs; all fit, if those to come do.
use Rattle.std.proofs.Common.{◌≡◌, ◌++◌, drop}
use Rattle.std.specs.List.{AllByRecursion}
use Rattle.fuse_requests.specs.Text.{pairs_text, PairFits}
use Rattle.fuse_requests.proofs.tail.push_pairs.Given as goal

abbrev pub invariant-loop-pair : goal.invariant-loop-pair
invariant-loop-pair l = record {
  text : l.out.items ++ pairs_text (drop l.pair-index l.pairs) ≡ l.fn.out.items ++ pairs_text l.pairs;
  fit : AllByRecursion PairFits (drop l.pair-index l.pairs) → AllByRecursion PairFits l.pairs;
}
