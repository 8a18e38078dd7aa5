-- The files are short.
use Rattle.mount_rules.specs.Files.{FilesAreShort}
use Rattle.mount_state.proofs.tests.sizes_and_times_are_set.Given as goal

abbrev pub invariant-loop-setting : goal.invariant-loop-setting
invariant-loop-setting g l = FilesAreShort l.mount.mount
