-- What is staged is staged of a file.
use Rattle.std.proofs.Common.{sym, ap, ◌∙◌}
use Rattle.mount_state.specs.Spares.{provided_by}
use Rattle.mount_state.specs.Tables.{mount_of}
use Rattle.mount_state.proofs.FlushLaws.{flush_of, flushed_file}
use Rattle.mount_state.proofs.tables.Tables.flush.Goals as goal

pub show_generation-requires-clause-file : goal.show_generation-requires-clause-file
show_generation-requires-clause-file c =
    flushed_file (mount_of c.args.self.now) c.args.node c.in-Name.name c.requires.mount
    (flush_of (mount_of c.args.self.now) c.args.node c.in-Name.name (sym (ap provided_by c.in-Name.is) ∙ c.requires.prepared))
