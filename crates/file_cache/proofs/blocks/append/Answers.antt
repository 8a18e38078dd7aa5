use Rattle.std.proofs.Common.{◌≡◌, true, sym, subst, ◌∙◌, arith}
use Rattle.std.proofs.lemmas.Bool.{OnTrue_at, lt-ltb}
use Rattle.block_pool.specs.Chains.{entries_of}
use Rattle.block_pool.specs.Pool.{Keeps}
use Rattle.file_cache.specs.Stored.{IsAppended}
use Rattle.file_cache.proofs.Numbered.{absent_behind}
use Rattle.file_cache.proofs.Storing.{block_there, IsAppended-written}
use Rattle.file_cache.proofs.blocks.append.Goals as goal

pub insert_sorted-requires-clause-absent : goal.insert_sorted-requires-clause-absent
insert_sorted-requires-clause-absent c = absent_behind c.args.position (entries_of c.args.region.now.chains c.args.chain.now) c.requires.numbered c.requires.position

pub write-requires-clause-there : goal.write-requires-clause-there
write-requires-clause-there c =
    let full : c.insert_sorted.result ≡ true = c.insert_sorted.ensures.full ∙ lt-ltb 0 c.args.region.now.free (omega (arith, c.requires.free)) in
    let put = OnTrue_at full c.insert_sorted.ensures.ok in
    block_there c.args.region.now c.insert_sorted.new.self c.args.chain.now c.insert_sorted.new.chain c.args.position c.requires.numbered c.requires.position put.0 put.1

pub returns : goal.returns
returns c =
    let full : c.insert_sorted.result ≡ true = c.insert_sorted.ensures.full ∙ lt-ltb 0 c.args.region.now.free (omega (arith, c.requires.free)) in
    let put = OnTrue_at full c.insert_sorted.ensures.ok in
    subst (λ new. IsAppended c.args.region.now c.write.new.self c.args.chain.now new c.args.position c.args.bytes.now) (sym c.write.ensures.head)
    (IsAppended-written c.args.region.now c.insert_sorted.new.self c.args.chain.now c.insert_sorted.new.chain c.args.position c.requires.numbered c.requires.position put.0 put.1
    c.write.new.self c.args.bytes.now c.requires.free c.insert_sorted.ensures.kept c.write.ensures.ok (subst (λ new. Keeps c.insert_sorted.new.self.chains c.write.new.self.chains c.insert_sorted.new.chain new) c.write.ensures.head c.write.ensures.kept))
