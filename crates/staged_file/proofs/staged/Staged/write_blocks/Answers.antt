use Rattle.std.proofs.Common.{arith}
use Rattle.staged_file.proofs.BlockByBlock.{free-far, wanted-far, SoFar-more}
use Rattle.staged_file.proofs.staged.Staged.write_blocks.Goals as goal

pub write_block-requires-clause-free : goal.write_block-requires-clause-free
write_block-requires-clause-free c =
    free-far c.args.pool.now c.args.self.now c.loop-block.pool c.loop-block.self c.args.first c.args.from.now c.args.base_first c.args.base.now c.loop-block.block c.loop-block.invariant
    c.loop-block.auto.block (let lt = c.loop-block-test.true in omega arith) c.requires.some

pub write_block-requires-clause-wanted : goal.write_block-requires-clause-wanted
write_block-requires-clause-wanted c =
    wanted-far c.args.pool.now c.args.self.now c.loop-block.pool c.loop-block.self c.args.first c.args.from.now c.args.base_first c.args.base.now c.loop-block.block c.loop-block.invariant
    c.loop-block.auto.block (let lt = c.loop-block-test.true in omega arith) c.requires.some c.requires.wanted

pub loop-block-preserved : goal.loop-block-preserved
loop-block-preserved c =
    SoFar-more c.args.pool.now c.args.self.now c.loop-block.pool c.loop-block.self c.args.first c.args.from.now c.args.base_first c.args.base.now c.loop-block.block c.loop-block.invariant
    c.loop-block.auto.block (let lt = c.loop-block-test.true in omega arith) c.requires.some
    c.write_block.new.pool c.write_block.new.self c.write_block.ensures.step c.write_block.ensures.touched c.write_block.ensures.free c.write_block.ensures.bytes
