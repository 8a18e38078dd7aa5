-- The slice is what stood before the place, the number's bytes, and what stood behind them.
use Rattle.fuse_head.specs.Little.{u16_bytes}
use Rattle.fuse_head.proofs.LittleLemmas.{length-u16_bytes}
use Rattle.fuse_head.proofs.Writes.{drop-written, take-written}
use Rattle.fuse_head.proofs.fields.put_u16.Goals as goal

pub returns-clause-front : goal.returns-clause-front
unfolding u16_bytes
returns-clause-front c =
    take-written 2 c.args.place c.args.out.now (u16_bytes c.args.n) c.write_u16.new.buf c.requires (length-u16_bytes c.args.n) c.write_u16.ensures

pub returns-clause-kept : goal.returns-clause-kept
unfolding u16_bytes
returns-clause-kept c =
    drop-written 2 c.args.place c.args.out.now (u16_bytes c.args.n) c.write_u16.new.buf c.requires (length-u16_bytes c.args.n) c.write_u16.ensures
