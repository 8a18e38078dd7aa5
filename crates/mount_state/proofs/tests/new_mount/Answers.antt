-- It has no file.
use Rattle.std.proofs.Common.{sym, subst}
use Rattle.mount_rules.specs.Files.{FilesAreShort}
use Rattle.mount_state.specs.Mounts.{MountState}
use Rattle.mount_state.proofs.ShortLaws.{first_short}
use Rattle.mount_state.proofs.tests.new_mount.Goals as goal

pub returns : goal.returns
returns c = subst (λ (s : MountState). FilesAreShort s.mount) (sym c.in_ok-mount.ensures.ok) first_short
