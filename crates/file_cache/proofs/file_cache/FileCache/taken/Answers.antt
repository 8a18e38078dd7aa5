use Rattle.std.proofs.Common.{subst}
use Rattle.cache_spec.specs.KeptFiles.{IsCache}
use Rattle.file_cache.specs.Kept.{Cache}
use Rattle.file_cache.proofs.HeldLaws.{IsCache-held}
use Rattle.file_cache.proofs.file_cache.FileCache.taken.Goals as goal

pub returns-clause-cache : goal.returns-clause-cache
returns-clause-cache c = subst (λ (t : Cache). IsCache t.blocks t.files) c.self.view_is
    (IsCache-held c.self.inside.files.entries c.self.inside.files.cap c.self.inside.region c.self.inside.blocks c.self.invariant)
