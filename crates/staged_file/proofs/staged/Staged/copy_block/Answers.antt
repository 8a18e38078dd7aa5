-- A block is touched where the chain has it.
use Rattle.std.proofs.Common.{is_some, sym, ap, ◌∙◌}
use Rattle.block_pool.specs.Chains.{entries_of}
use Rattle.staged_file.proofs.Positions.{among-positions}
use Rattle.staged_file.proofs.staged.Staged.copy_block.Goals as goal

pub returns-in_default-clause-held : goal.returns-in_default-clause-held
returns-in_default-clause-held c = ap is_some c.in_default.ensures.ok ∙ sym (among-positions (entries_of c.args.pool.now.chains c.args.self.now.chain) c.args.block)

pub returns-clause-held : goal.returns-clause-held
returns-clause-held c = ap is_some c.in-Some.ensures.ok ∙ sym (among-positions (entries_of c.args.pool.now.chains c.args.self.now.chain) c.args.block)
