use Rattle.std.proofs.Common.{ap, ◌∙◌}
use Rattle.staging_spec.specs.Blocks.{is_among}
use Rattle.staged_file.specs.Staged.{touched_of}
use Rattle.staged_file.proofs.Positions.{put-among}
use Rattle.staged_file.proofs.staged.Staged.ready.Goals as goal

pub returns-clause-there : goal.returns-clause-there
returns-clause-there c = ap (λ ns. is_among ns c.args.block) c.touch.ensures.touched ∙ put-among (touched_of c.args.pool.now.chains c.args.self.now) c.args.block
