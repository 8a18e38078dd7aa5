-- The files are short.
use Rattle.mount_rules.specs.Files.{FilesAreShort}
use Rattle.mount_state.proofs.tests.paths_grow.Given as goal

abbrev pub invariant-loop-node : goal.invariant-loop-node
invariant-loop-node g l = FilesAreShort l.mount.mount
