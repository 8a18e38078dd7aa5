use Rattle.std.proofs.Common.{sym, ap, subst, ◌∙◌}
use Rattle.lru.specs.LruCache.{LruCache}
use Rattle.cache_spec.specs.declared.file_key.FileKey.{FileKey}
use Rattle.file_cache.specs.declared.stored_file.StoredFile.{StoredFile}
use Rattle.file_cache.specs.Kept.{IsHeld, but_last}
use Rattle.file_cache.specs.Stored.{contents_in}
use Rattle.file_cache.proofs.HeldLaws.{last_split, IsHeld-dropped, contents-dropped}
use Rattle.file_cache.proofs.file_cache.FileCache.drop_last.Goals as goal

pub give-requires : goal.give-requires
give-requires c =
    (last_split c.self.inside.files.entries c.self.inside.files.cap c.self.inside.region c.self.inside.blocks c.self.invariant c.take_last-file.result c.take_last-file.ensures.last).stored.there

pub invariant_of-self : goal.invariant_of-self
invariant_of-self c =
    subst (λ (m : LruCache FileKey StoredFile). IsHeld m.entries m.cap c.give.new.region c.self.inside.blocks) (sym c.take_last-file.ensures.others)
    (IsHeld-dropped c.self.inside.files.entries c.self.inside.files.cap c.self.inside.region c.self.inside.blocks c.self.invariant c.take_last-file.result c.take_last-file.ensures.last
    c.give.new.region c.give.ensures.ok c.give.ensures.kept)

pub returns : goal.returns
returns c = λ i. record {
  files = (ap (λ m. contents_in c.give.new.region.chains m.entries) c.take_last-file.ensures.others
      ∙ contents-dropped c.self.inside.files.entries c.self.inside.files.cap c.self.inside.region c.self.inside.blocks c.self.invariant c.take_last-file.result c.take_last-file.ensures.last
      c.give.new.region c.give.ensures.ok c.give.ensures.kept
      ∙ ap (λ t. but_last t.files) c.self.view_is) i;
  blocks = ap (λ t. t.blocks) c.self.view_is i;
}
