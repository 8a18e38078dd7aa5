-- The slice is what stood before the place, the number's bytes, and what stood behind them.
use Rattle.fuse_head.specs.Little.{u32_bytes}
use Rattle.fuse_head.proofs.LittleLemmas.{length-u32_bytes}
use Rattle.fuse_head.proofs.Writes.{drop-written, take-written}
use Rattle.fuse_head.proofs.fields.put_u32.Goals as goal

pub returns-clause-front : goal.returns-clause-front
unfolding u32_bytes
returns-clause-front c =
    take-written 4 c.args.place c.args.out.now (u32_bytes c.args.n) c.write_u32.new.buf c.requires (length-u32_bytes c.args.n) c.write_u32.ensures

pub returns-clause-kept : goal.returns-clause-kept
unfolding u32_bytes
returns-clause-kept c =
    drop-written 4 c.args.place c.args.out.now (u32_bytes c.args.n) c.write_u32.new.buf c.requires (length-u32_bytes c.args.n) c.write_u32.ensures
