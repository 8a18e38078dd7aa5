-- The files of the tables are those of the mount.
use Rattle.std.proofs.Common.{sym, subst}
use Rattle.mount_rules.specs.Files.{FilesAreShort}
use Rattle.mount_state.specs.Mounts.{MountState}
use Rattle.mount_state.proofs.mount.Mount.early.Goals as goal

pub refused_at_take-requires : goal.refused_at_take-requires
refused_at_take-requires c = record { short = subst (λ (s : MountState). FilesAreShort s.mount) (sym c.self.view_is) c.requires.short }
