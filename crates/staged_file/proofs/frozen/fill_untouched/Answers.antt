use Rattle.std.proofs.Common.{length}
use Rattle.staged_file.proofs.Copies.{CanRead-lacked}
use Rattle.staged_file.proofs.frozen.fill_untouched.Goals as goal

pub fill_block-requires-clause-wanted : goal.fill_block-requires-clause-wanted
fill_block-requires-clause-wanted c f = CanRead-lacked c.args.touched.now c.args.limit c.loop-block.block c.args.base_first (length c.args.base.now) c.requires.wanted f
