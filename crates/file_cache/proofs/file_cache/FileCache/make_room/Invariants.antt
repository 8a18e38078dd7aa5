use Rattle.std.proofs.Common.{◌≡◌, length}
use Rattle.cache_spec.specs.KeptFiles.{fitting}
use Rattle.file_cache.proofs.file_cache.FileCache.make_room.Given as goal

abbrev pub invariant-loop-self : goal.invariant-loop-self
invariant-loop-self l = (fitting l.room l.self.files ≡ fitting l.room l.fn.self.files) × (l.self.blocks ≡ l.fn.self.blocks)

abbrev pub decreases-loop-self : goal.decreases-loop-self
decreases-loop-self l = length l.self.files
