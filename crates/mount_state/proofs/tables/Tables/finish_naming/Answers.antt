-- An RMDIR removes a path, and a RENAME, with flags or without, goes by its own rules.
use Rattle.std.proofs.Common.{sym, ap, ◌∙◌}
use Rattle.fuse_requests.specs.Grammar.{without_spare}
use Rattle.mount_state.specs.Spares.{provided_by}
use Rattle.mount_state.specs.Tables.{mount_of}
use Rattle.mount_state.proofs.RemovingLaws.{removed_path}
use Rattle.mount_state.proofs.RenamingLaws.{renamed}
use Rattle.mount_state.proofs.tables.Tables.finish_naming.Goals as goal

pub remove_directory-requires : goal.remove_directory-requires
remove_directory-requires c =
    removed_path (mount_of c.args.self.now) (without_spare c.args.request.now) c.in-Rmdir.node c.in-Rmdir.name c.into_removal-in-Rmdir.result
    (ap without_spare c.in-Rmdir.is) c.requires.mount c.requires.free (sym c.into_removal-in-Rmdir.ensures ∙ c.requires.prepared)

pub returns-in-Rename-clause-reply : goal.returns-in-Rename-clause-reply
returns-in-Rename-clause-reply c = λ at set.
    c.rename.ensures.no_spare
    ∙ (renamed at (mount_of c.args.self.now) (mount_of c.rename.new.self) c.args.seen.items (provided_by c.args.prepared) c.rename.result c.rename.ensures.reply c.rename.ensures.mount
    c.args.request.now c.in-Rename.is c.requires.free c.requires.prepared).0

pub returns-in-Rename-clause-mount : goal.returns-in-Rename-clause-mount
returns-in-Rename-clause-mount c = λ at set.
    (renamed at (mount_of c.args.self.now) (mount_of c.rename.new.self) c.args.seen.items (provided_by c.args.prepared) c.rename.result c.rename.ensures.reply c.rename.ensures.mount
    c.args.request.now c.in-Rename.is c.requires.free c.requires.prepared).1
