use Rattle.std.proofs.Common.{◌≤◌, ◌∙◌, arith}
use Rattle.std.proofs.lemmas.Bool.{OnTrue_at}
use Rattle.block_pool.proofs.Taking.{IsTaken-more, taken_absent, taken_free}
use Rattle.block_pool.proofs.pool.BlockPool.take.Goals as goal

pub insert_sorted-requires-clause-absent : goal.insert_sorted-requires-clause-absent
insert_sorted-requires-clause-absent c = taken_absent c.args.self.now c.loop-position.self c.loop-position.chain c.loop-position.position c.loop-position.invariant

pub loop-position-preserved : goal.loop-position-preserved
loop-position-preserved c =
    let enough : c.args.count ≤ c.args.self.now.free = omega (arith, c.if-free-count.false, c.free.ensures.count) in
    let full =
    c.insert_sorted.ensures.full
    ∙ taken_free c.args.self.now c.loop-position.self c.loop-position.chain c.loop-position.position c.args.count c.loop-position.invariant enough c.loop-position-test.true in
    let ok = OnTrue_at full c.insert_sorted.ensures.ok in
    IsTaken-more c.args.self.now c.loop-position.self c.insert_sorted.new.self c.loop-position.chain c.insert_sorted.new.chain c.loop-position.position c.loop-position.invariant ok.0 ok.1
    c.insert_sorted.ensures.kept
