-- One pair was pushed to none, and the keys of one pair rise.
use Rattle.std.specs.List.Sorted.{IsStrictlySortedBy}
use Rattle.history_text.proofs.tests.mtime_pairs.Goals as goal

pub returns : goal.returns
unfolding IsStrictlySortedBy
returns c = rw (c.push.ensures.items, c.in_ok-reserve.ensures.kept, c.new-pairs.ensures.items) (tt, tt)
