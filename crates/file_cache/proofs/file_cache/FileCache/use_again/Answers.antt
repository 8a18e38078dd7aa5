use Rattle.std.proofs.Common.{sym, ap, subst, ◌∙◌}
use Rattle.lru.specs.LruCache.{LruCache}
use Rattle.cache_spec.specs.declared.file_key.FileKey.{FileKey}
use Rattle.cache_spec.specs.KeptFiles.{is_kept, used, IsCache}
use Rattle.file_cache.specs.declared.stored_file.StoredFile.{StoredFile}
use Rattle.file_cache.specs.Kept.{Cache, IsHeld}
use Rattle.file_cache.specs.Stored.{contents_in}
use Rattle.file_cache.proofs.Contents.{is_kept-contents_in, contents_in-promoted}
use Rattle.file_cache.proofs.HeldLaws.{IsCache-held, IsHeld-promoted}
use Rattle.file_cache.proofs.file_cache.FileCache.use_again.Goals as goal

pub invariant_of-self : goal.invariant_of-self
invariant_of-self c =
    subst (λ (m : LruCache FileKey StoredFile). IsHeld m.entries m.cap c.self.inside.region c.self.inside.blocks) (sym c.promote.ensures.entries)
    (IsHeld-promoted c.self.inside.files.entries c.self.inside.files.cap c.self.inside.region c.self.inside.blocks c.self.invariant c.args.key.now)

pub returns-clause-ok : goal.returns-clause-ok
returns-clause-ok c =
    c.promote.ensures.value ∙ is_kept-contents_in c.self.inside.region.chains c.self.inside.files.entries c.args.key.now ∙ ap (λ t. is_kept t.files c.args.key.now) c.self.view_is

pub returns-clause-cache : goal.returns-clause-cache
returns-clause-cache c = subst (λ (t : Cache). IsCache t.blocks t.files) c.self.view_is
    (IsCache-held c.self.inside.files.entries c.self.inside.files.cap c.self.inside.region c.self.inside.blocks c.self.invariant)

pub returns-clause-kept : goal.returns-clause-kept
returns-clause-kept c = λ i. record {
  files = (ap (λ m. contents_in c.self.inside.region.chains m.entries) c.promote.ensures.entries
      ∙ contents_in-promoted c.self.inside.region.chains c.self.inside.files.entries c.args.key.now
      ∙ ap (λ t. used t.files c.args.key.now) c.self.view_is) i;
  blocks = ap (λ t. t.blocks) c.self.view_is i;
}
