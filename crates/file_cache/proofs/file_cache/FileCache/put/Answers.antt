use Rattle.std.proofs.Common.{◌≡◌, ◌+◌, ◌≤◌, None, ◌∷◌, sym, ap, subst, ◌∙◌}
use Rattle.lru.specs.LruCache.{LruCache, lru_cache}
use Rattle.block_pool.specs.Chains.{IsChain}
use Rattle.block_pool.specs.Pool.{Keeps, give_chain}
use Rattle.cache_spec.specs.declared.file_key.FileKey.{FileKey}
use Rattle.cache_spec.specs.KeptFiles.{content_of, blocks_of, blocks_in}
use Rattle.file_cache.specs.declared.stored_file.StoredFile.{StoredFile}
use Rattle.file_cache.specs.Kept.{Cache, IsHeld}
use Rattle.file_cache.specs.Stored.{contents_in}
use Rattle.file_cache.proofs.HeldLaws.{put_is, IsHeld-put, contents-put, IsHeld-refused, contents-refused}
use Rattle.file_cache.proofs.file_cache.FileCache.put.Goals as goal

put_in_front : (c : goal.In_default-put) → c.put.new.self ≡ lru_cache ((c.args.key.now, c.store-file.result) ∷ c.self.inside.files.entries) c.self.inside.files.cap
put_in_front c =
    let none : content_of (contents_in c.self.inside.region.chains c.self.inside.files.entries) c.args.key.now ≡ None = ap (λ t. content_of t.files c.args.key.now) c.self.view_is ∙ c.requires.absent in
    let fits = subst (λ (t : Cache). blocks_in t.files + blocks_of c.args.bytes.now ≤ t.blocks) (sym c.self.view_is) c.requires.room in
    put_is c.self.inside.files c.put.new.self c.self.inside.region c.self.inside.blocks c.args.key.now (record c.args.key.now { name = c.in-Ok.name }) c.store-file.result c.args.bytes.now
    c.self.invariant none c.requires.some fits (ap (λ name. record c.args.key.now { name = name }) c.in-Ok.ensures.ok) c.in_default-put.ensures.entries

pub invariant_of-self : goal.invariant_of-self
invariant_of-self c =
    subst (λ (m : LruCache FileKey StoredFile). IsHeld m.entries m.cap c.store-file.new.region c.self.inside.blocks) (sym (put_in_front c))
    (IsHeld-put c.self.inside.files.entries c.self.inside.files.cap c.self.inside.region c.self.inside.blocks c.self.invariant c.args.key.now c.store-file.result c.args.bytes.now c.store-file.new.region c.store-file.ensures)

pub returns-in_default-put : goal.returns-in_default-put
returns-in_default-put c = λ i. record {
  files = (ap (λ m. contents_in c.store-file.new.region.chains m.entries) (put_in_front c)
      ∙ contents-put c.self.inside.files.entries c.self.inside.files.cap c.self.inside.region c.self.inside.blocks c.self.invariant c.args.key.now c.store-file.result c.args.bytes.now c.store-file.new.region c.store-file.ensures
      ∙ ap (λ t. (c.args.key.now, c.args.bytes.now) ∷ t.files) c.self.view_is) i;
  blocks = ap (λ t. t.blocks) c.self.view_is i;
}

-- what came back is what was stored
pub give-requires : goal.give-requires
give-requires c =
    subst (λ (e : FileKey × StoredFile). IsChain c.store-file.new.region.chains e.1.chain) (sym c.in-Err.ensures.value_returned) c.store-file.ensures.stored.there

pub invariant_of-self-2 : goal.invariant_of-self-2
invariant_of-self-2 c =
    let own = ap (λ (e : FileKey × StoredFile). e.1.chain) c.in-Err.ensures.value_returned in
    subst (λ (m : LruCache FileKey StoredFile). IsHeld m.entries m.cap c.give.new.region c.self.inside.blocks) (sym c.in-Err.ensures.err)
    (IsHeld-refused c.self.inside.files.entries c.self.inside.files.cap c.self.inside.region c.self.inside.blocks c.self.invariant c.args.key.now c.store-file.result c.args.bytes.now
    c.store-file.new.region c.store-file.ensures c.give.new.region (c.give.ensures.ok ∙ ap (give_chain c.store-file.new.region) own)
    (subst (λ head. Keeps c.store-file.new.region.chains c.give.new.region.chains head None) own c.give.ensures.kept))

pub returns : goal.returns
returns c =
    let own = ap (λ (e : FileKey × StoredFile). e.1.chain) c.in-Err.ensures.value_returned in
    λ i. record {
      files = (ap (λ m. contents_in c.give.new.region.chains m.entries) c.in-Err.ensures.err
          ∙ contents-refused c.self.inside.files.entries c.self.inside.files.cap c.self.inside.region c.self.inside.blocks c.self.invariant c.args.key.now c.store-file.result c.args.bytes.now
          c.store-file.new.region c.store-file.ensures c.give.new.region (c.give.ensures.ok ∙ ap (give_chain c.store-file.new.region) own)
          (subst (λ head. Keeps c.store-file.new.region.chains c.give.new.region.chains head None) own c.give.ensures.kept)
          ∙ ap (λ t. t.files) c.self.view_is) i;
      blocks = ap (λ t. t.blocks) c.self.view_is i;
    }
