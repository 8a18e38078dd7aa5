use Rattle.std.proofs.Common.{◌≡◌, ◌-◌, length, take, drop}
use Rattle.file_cache.specs.Stored.{content_in}
use Rattle.file_cache.proofs.stored_file.StoredFile.read.Given as goal

abbrev pub invariant-loop-done : goal.invariant-loop-done
invariant-loop-done l = (length l.out ≡ length l.fn.out) × (take l.done l.out ≡ take l.done (drop l.first (content_in l.region.chains l.self)))

abbrev pub decreases-loop-done : goal.decreases-loop-done
decreases-loop-done l = length l.out - l.done
