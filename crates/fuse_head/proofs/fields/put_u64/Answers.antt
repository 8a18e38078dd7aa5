-- The slice is what stood before the place, the number's bytes, and what stood behind them.
use Rattle.fuse_head.specs.Little.{u64_bytes}
use Rattle.fuse_head.proofs.LittleLemmas.{length-u64_bytes}
use Rattle.fuse_head.proofs.Writes.{drop-written, take-written}
use Rattle.fuse_head.proofs.fields.put_u64.Goals as goal

pub returns-clause-front : goal.returns-clause-front
unfolding u64_bytes
returns-clause-front c =
    take-written 8 c.args.place c.args.out.now (u64_bytes c.args.n) c.write_u64.new.buf c.requires (length-u64_bytes c.args.n) c.write_u64.ensures

pub returns-clause-kept : goal.returns-clause-kept
unfolding u64_bytes
returns-clause-kept c =
    drop-written 8 c.args.place c.args.out.now (u64_bytes c.args.n) c.write_u64.new.buf c.requires (length-u64_bytes c.args.n) c.write_u64.ensures
