use Rattle.std.proofs.Common.{◌/◌, ◌%◌, is_some, sym, ap, ◌∙◌, length, take, drop, get_or}
use Rattle.block_pool.specs.Chains.{at, entries_of}
use Rattle.block_pool.specs.Pool.{block_at}
use Rattle.staged_file.proofs.Positions.{among-positions}
use Rattle.staged_file.proofs.PartsRead.{part-block}
use Rattle.staged_file.proofs.staged.Staged.copy_out.Goals as goal

pub read-requires-clause-there : goal.read-requires-clause-there
read-requires-clause-there c =
    ap (λ v. is_some (at (entries_of c.args.pool.now.chains v.chain) (c.args.low / 65536))) c.self.view_is
    ∙ sym (among-positions (entries_of c.args.pool.now.chains c.args.self.now.chain) (c.args.low / 65536)) ∙ c.requires.there

pub returns : goal.returns
returns c source k lt =
    ap (λ xs. get_or xs k 0) (c.read.ensures.ok ∙ ap (λ v. take (length c.args.part.now) (drop (c.args.low % 65536) (block_at c.args.pool.now.chains v.chain (c.args.low / 65536)))) c.self.view_is)
    ∙ part-block (entries_of c.args.pool.now.chains c.args.self.now.chain) c.args.self.now.limit source c.args.low (length c.args.part.now) k
    (sym (among-positions (entries_of c.args.pool.now.chains c.args.self.now.chain) (c.args.low / 65536)) ∙ c.requires.there) c.requires.block lt
