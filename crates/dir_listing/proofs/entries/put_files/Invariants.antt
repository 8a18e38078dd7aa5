-- The files so far.
use Rattle.dir_listing.specs.Steps.{PutsFiles}
use Rattle.dir_listing.proofs.entries.put_files.Given as goal

abbrev pub invariant-loop-file : goal.invariant-loop-file
invariant-loop-file l = PutsFiles l.yielded l.fn.entries l.entries
