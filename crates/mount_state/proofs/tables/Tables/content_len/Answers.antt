-- Where nothing is staged the content is the source's.
use Rattle.std.proofs.Common.{◌∙◌}
use Rattle.std.specs.FinMap as fin
use Rattle.mount_rules.specs.View.{sight_of}
use Rattle.mount_state.proofs.StagedLaws.{unstaged_len}
use Rattle.mount_state.proofs.tables.Tables.content_len.Goals as goal

pub returns-in-None : goal.returns-in-None
returns-in-None c = c.shown_len.ensures c.args.node ∙ unstaged_len (fin.get c.args.self.now.staging.files c.args.node) (sight_of c.args.node c.args.inode.now) c.in-None.ensures.ok
