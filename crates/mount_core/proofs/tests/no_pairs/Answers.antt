-- The keys of no pairs rise.
use Rattle.std.specs.List.Sorted.{IsStrictlySortedBy}
use Rattle.mount_core.proofs.tests.no_pairs.Goals as goal

pub returns : goal.returns
unfolding IsStrictlySortedBy
returns c = rw c.new.ensures.items tt
