use Rattle.std.proofs.Common.{◌+◌, length, rules}
use Rattle.staged_file.proofs.BlockByBlock.{IsStaged-reach, write-shows}
use Rattle.staged_file.proofs.staged.Staged.write.Goals as goal

pub write_blocks-requires-clause-staged : goal.write_blocks-requires-clause-staged
write_blocks-requires-clause-staged c =
    IsStaged-reach c.args.pool.now.chains c.args.self.now c.reach.new.self (c.args.first + length c.args.from.now) c.requires.staged c.requires.range c.reach.ensures

pub returns-clause-ok : goal.returns-clause-ok
returns-clause-ok c source holds =
    write-shows c.args.pool.now c.args.self.now c.reach.new.self c.write_blocks.new.pool c.write_blocks.new.self c.args.first c.args.from.now c.args.base_first c.args.base.now
    c.requires.staged (search rules) c.reach.ensures c.write_blocks.ensures.step c.write_blocks.ensures.touched source (c.write_blocks.ensures.bytes source holds)
