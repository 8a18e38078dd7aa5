use Rattle.std.proofs.Common.{◌∙◌, is_some, sym, ap}
use Rattle.block_pool.specs.Chains.{at, entries_of}
use Rattle.staged_file.proofs.Positions.{among-positions}
use Rattle.staged_file.proofs.staged.Staged.holds.Goals as goal

pub returns : goal.returns
returns c =
    c.holds.ensures ∙ ap (λ v. is_some (at (entries_of c.args.pool.now.chains v.chain) c.args.block)) c.self.view_is
    ∙ sym (among-positions (entries_of c.args.pool.now.chains c.args.self.now.chain) c.args.block)
