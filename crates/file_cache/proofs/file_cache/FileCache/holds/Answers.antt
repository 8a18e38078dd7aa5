use Rattle.std.proofs.Common.{ap, subst, ◌∙◌}
use Rattle.cache_spec.specs.KeptFiles.{is_kept, IsCache}
use Rattle.file_cache.specs.Kept.{Cache}
use Rattle.file_cache.proofs.Contents.{is_kept-contents_in}
use Rattle.file_cache.proofs.HeldLaws.{IsCache-held}
use Rattle.file_cache.proofs.file_cache.FileCache.holds.Goals as goal

pub returns-clause-ok : goal.returns-clause-ok
returns-clause-ok c =
    c.contains.ensures ∙ is_kept-contents_in c.self.inside.region.chains c.self.inside.files.entries c.args.key.now ∙ ap (λ t. is_kept t.files c.args.key.now) c.self.view_is

pub returns-clause-valid : goal.returns-clause-valid
returns-clause-valid c = subst (λ (t : Cache). IsCache t.blocks t.files) c.self.view_is
    (IsCache-held c.self.inside.files.entries c.self.inside.files.cap c.self.inside.region c.self.inside.blocks c.self.invariant)
