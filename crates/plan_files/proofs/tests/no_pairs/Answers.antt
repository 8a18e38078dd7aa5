-- The keys of no pairs rise.
use Rattle.std.specs.List.Sorted.{IsStrictlySortedBy}
use Rattle.plan_files.proofs.tests.no_pairs.Goals as goal

pub returns : goal.returns
unfolding IsStrictlySortedBy
returns c = rw c.new.ensures.items tt
