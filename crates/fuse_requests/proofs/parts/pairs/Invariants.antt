-- What was read and what is still to come are all pairs, and the bytes of those are left.
use Rattle.std.proofs.Common.{◌≡◌, ◌*◌, ◌-◌, ◌++◌, length}
use Rattle.fuse_requests.specs.Parts.{pairs_of}
use Rattle.fuse_requests.proofs.parts.pairs.Given as goal

abbrev pub invariant-loop : goal.invariant-loop
invariant-loop l = record {
  left : length l.rest ≡ 16 * (l.count - l.counter);
  all : l.pairs.items ++ pairs_of (l.count - l.counter) l.rest ≡ pairs_of l.count l.bytes;
}
