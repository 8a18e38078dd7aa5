-- The content has another length, and then the time that is set.
use Rattle.std.proofs.Common.{ap}
use Rattle.mount_rules.specs.View.{sight_at}
use Rattle.plan_files.specs.Settings.{asked_of}
use Rattle.staging_table.specs.Stagings.{Stagings}
use Rattle.mount_state.specs.Tables.{mount_of}
use Rattle.mount_state.proofs.SetattrLaws.{resized_so}
use Rattle.mount_state.proofs.tables.Tables.resize.Goals as goal

pub returns-clause-mount : goal.returns-clause-mount
returns-clause-mount c = λ at now.
    resized_so at (mount_of c.args.self.now) c.args.node (asked_of c.args.asked.now) c.args.second now c.source_len-len.result (sight_at c.args.self.now.nodes.table c.args.node)
    c.time_then-seconds.result c.resize.new.self.files c.set_mtime.new.self.files c.requires.there c.source_len-len.ensures.size c.time_then-seconds.ensures
    c.resize.ensures.ok (ap (λ (t : Stagings). t.files) c.set_mtime.ensures.ok)
