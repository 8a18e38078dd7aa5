-- The pairs so far are copied, and there is room for the others.
use Rattle.std.proofs.Common.{◌≡◌, ◌+◌, ◌≤◌, length, take}
use Rattle.bucket_api.proofs.objects.copy_pairs.Given as goal

abbrev pub invariant-loop-pair : goal.invariant-loop-pair
invariant-loop-pair l = record {
  copied : l.copies.items ≡ take l.pair-index l.pairs.items;
  room : length l.pairs.items ≤ l.copies.spare + l.pair-index;
}
