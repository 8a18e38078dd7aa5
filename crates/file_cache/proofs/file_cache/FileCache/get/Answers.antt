use Rattle.std.proofs.Common.{length, take, drop, Some, None, is_some, sym, ap, subst, ◌∙◌, arith}
use Rattle.std.specs.Option.{option_map_or}
use Rattle.lru.specs.LruCache.{LruCache}
use Rattle.cache_spec.specs.declared.file_key.FileKey.{FileKey}
use Rattle.cache_spec.specs.KeptFiles.{same_file, used}
use Rattle.file_cache.specs.declared.stored_file.StoredFile.{StoredFile}
use Rattle.file_cache.specs.Kept.{IsHeld}
use Rattle.file_cache.specs.Stored.{content_in, contents_in}
use Rattle.file_cache.proofs.Contents.{content_shown, contents_in-promoted, stored_at}
use Rattle.file_cache.proofs.HeldLaws.{IsHeld-promoted}
use Rattle.file_cache.proofs.Reading.{length-content_in}
use Rattle.file_cache.proofs.file_cache.FileCache.get.Goals as goal

pub invariant_of-self : goal.invariant_of-self
invariant_of-self c =
    subst (λ (m : LruCache FileKey StoredFile). IsHeld m.entries m.cap c.self.inside.region c.self.inside.blocks) (sym c.get.follows.holds-at-none)
    (IsHeld-promoted c.self.inside.files.entries c.self.inside.files.cap c.self.inside.region c.self.inside.blocks c.self.invariant c.args.key.now)

pub returns-in_default-clause-ok : goal.returns-in_default-clause-ok
returns-in_default-clause-ok c =
    sym (ap is_some (content_shown c.self.inside.region.chains c.self.inside.files.entries c.args.key.now c.args.self.now.files None (ap (λ t. t.files) c.self.view_is) (sym c.in_default.ensures.value)))

pub returns-in_default-clause-bytes : goal.returns-in_default-clause-bytes
returns-in_default-clause-bytes c =
    sym (ap (λ o. option_map_or (λ content. take (length c.args.out.now) (drop c.args.first content)) o c.args.out.now)
    (content_shown c.self.inside.region.chains c.self.inside.files.entries c.args.key.now c.args.self.now.files None (ap (λ t. t.files) c.self.view_is) (sym c.in_default.ensures.value)))

pub returns-in_default-clause-kept : goal.returns-in_default-clause-kept
returns-in_default-clause-kept c = λ i. record {
  files = (ap (λ m. contents_in c.self.inside.region.chains m.entries) c.get.follows.holds-at-none
      ∙ contents_in-promoted c.self.inside.region.chains c.self.inside.files.entries c.args.key.now
      ∙ ap (λ t. used t.files c.args.key.now) c.self.view_is) i;
  blocks = ap (λ t. t.blocks) c.self.view_is i;
}

pub read-requires-clause-stored : goal.read-requires-clause-stored
read-requires-clause-stored c =
    stored_at c.self.inside.region.chains (same_file c.args.key.now) c.self.inside.files.entries c.in-Some.file.now c.self.invariant.stored (sym c.in-Some.ensures.value)

pub read-requires-clause-range : goal.read-requires-clause-range
read-requires-clause-range c =
    let stored = stored_at c.self.inside.region.chains (same_file c.args.key.now) c.self.inside.files.entries c.in-Some.file.now c.self.invariant.stored (sym c.in-Some.ensures.value) in
    let range = c.requires.range (content_in c.self.inside.region.chains c.in-Some.file.now)
    (content_shown c.self.inside.region.chains c.self.inside.files.entries c.args.key.now c.args.self.now.files (Some c.in-Some.file.now) (ap (λ t. t.files) c.self.view_is) (sym c.in-Some.ensures.value)) in
    omega (arith, range, length-content_in c.self.inside.region.chains c.in-Some.file.now stored)

pub returns-clause-ok : goal.returns-clause-ok
returns-clause-ok c =
    sym (ap is_some (content_shown c.self.inside.region.chains c.self.inside.files.entries c.args.key.now c.args.self.now.files (Some c.in-Some.file.now) (ap (λ t. t.files) c.self.view_is) (sym c.in-Some.ensures.value)))

pub returns-clause-bytes : goal.returns-clause-bytes
returns-clause-bytes c =
    c.read.ensures ∙ sym (ap (λ o. option_map_or (λ content. take (length c.args.out.now) (drop c.args.first content)) o c.args.out.now)
    (content_shown c.self.inside.region.chains c.self.inside.files.entries c.args.key.now c.args.self.now.files (Some c.in-Some.file.now) (ap (λ t. t.files) c.self.view_is) (sym c.in-Some.ensures.value)))

pub invariant_of-self-2 : goal.invariant_of-self-2
invariant_of-self-2 c =
    subst (λ (m : LruCache FileKey StoredFile). IsHeld m.entries m.cap c.self.inside.region c.self.inside.blocks) (sym c.get.follows.holds-at-none)
    (IsHeld-promoted c.self.inside.files.entries c.self.inside.files.cap c.self.inside.region c.self.inside.blocks c.self.invariant c.args.key.now)

pub returns-clause-kept : goal.returns-clause-kept
returns-clause-kept c = λ i. record {
  files = (ap (λ m. contents_in c.self.inside.region.chains m.entries) c.get.follows.holds-at-none
      ∙ contents_in-promoted c.self.inside.region.chains c.self.inside.files.entries c.args.key.now
      ∙ ap (λ t. used t.files c.args.key.now) c.self.view_is) i;
  blocks = ap (λ t. t.blocks) c.self.view_is i;
}
