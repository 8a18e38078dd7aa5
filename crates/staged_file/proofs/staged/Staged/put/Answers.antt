use Rattle.staged_file.specs.Staged.{byte_at}
use Rattle.staged_file.proofs.Touching.{Puts-part}
use Rattle.staged_file.proofs.staged.Staged.put.Goals as goal

pub returns-clause-bytes : goal.returns-clause-bytes
returns-clause-bytes c source =
    Puts-part (byte_at c.args.pool.now.chains c.args.self.now source) (byte_at c.copy_in.new.pool.chains c.copy_in.new.self source) c.args.low c.args.high c.args.first c.args.from.now
    c.requires.some c.requires.range.within.0 c.requires.range.within.1 (c.copy_in.ensures.bytes source)
