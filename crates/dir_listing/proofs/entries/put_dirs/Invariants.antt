-- The directories of the prefixes so far.
use Rattle.std.proofs.Common.{true}
use Rattle.dir_listing.specs.Steps.{PutsDirs}
use Rattle.dir_listing.proofs.entries.put_dirs.Given as goal

abbrev pub invariant-loop-prefix : goal.invariant-loop-prefix
invariant-loop-prefix l = PutsDirs l.yielded true l.fn.entries l.entries
