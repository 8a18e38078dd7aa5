-- The pair at the front of what is left is the next of all.
use Rattle.std.proofs.Common.{arith}
use Rattle.fuse_requests.specs.Parts.{pairs_of}
use Rattle.fuse_requests.proofs.PairLemmas.{pairs_of-step}
use Rattle.fuse_requests.proofs.parts.pairs.Goals as goal

pub loop-preserved : goal.loop-preserved
loop-preserved c = record {
  left = omega (arith, c.split_at.ensures.back_len, c.loop.invariant.left);
  all =
      let step = pairs_of-step c.loop.pairs.items c.args.count c.loop.counter c.loop.rest.now (pairs_of c.args.count c.args.bytes.now) c.loop-test.true c.loop.invariant.all in
      rw (c.in_ok-push.ensures.items, c.pair_at.ensures, c.split_at.ensures.back) step;
}
