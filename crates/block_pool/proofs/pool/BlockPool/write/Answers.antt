use Rattle.std.proofs.Common.{◌∙◌, Some, IsSome, sym, subst}
use Rattle.block_pool.specs.Chains.{IsChain, at, entries_of}
use Rattle.block_pool.proofs.PoolSteps.{chain_is, there_is, block_within, written_shows, written_filled, written_keeps, IsPool-filled}
use Rattle.block_pool.proofs.pool.BlockPool.write.Goals as goal

pub find-requires : goal.find-requires
find-requires c =
    chain_is c.self.inside.links c.self.inside.region c.self.invariant c.args.self.now c.self.view_is (Some c.unwrap-head.result)
    (subst (IsChain c.args.self.now.chains) (sym c.head.ensures ∙ c.unwrap-head.ensures) c.requires.chain)

pub unwrap-block-requires : goal.unwrap-block-requires
unwrap-block-requires c =
    subst IsSome (sym c.find.ensures.block)
    (there_is c.self.inside.links c.self.inside.region c.self.invariant c.args.self.now c.self.view_is (Some c.unwrap-head.result) c.args.position
    (subst (λ h. IsSome (at (entries_of c.args.self.now.chains h) c.args.position)) (sym c.head.ensures ∙ c.unwrap-head.ensures) c.requires.there))

pub write-requires-clause-block : goal.write-requires-clause-block
write-requires-clause-block c =
    block_within c.self.inside.links c.self.inside.region c.self.invariant c.args.self.now c.self.view_is c.find.ensures.valid (Some c.unwrap-head.result) c.args.position c.unwrap-block.result
    (chain_is c.self.inside.links c.self.inside.region c.self.invariant c.args.self.now c.self.view_is (Some c.unwrap-head.result)
    (subst (IsChain c.args.self.now.chains) (sym c.head.ensures ∙ c.unwrap-head.ensures) c.requires.chain))
    (sym c.find.ensures.block ∙ c.unwrap-block.ensures)

pub invariant_of-self : goal.invariant_of-self
invariant_of-self c =
    written_filled c.self.inside.links c.self.inside.region c.self.invariant c.args.self.now c.self.view_is c.find.ensures.valid c.write.new.self c.unwrap-head.result c.unwrap-block.result
    c.args.position c.args.first c.args.from.now (subst (IsChain c.args.self.now.chains) (sym c.head.ensures ∙ c.unwrap-head.ensures) c.requires.chain)
    (sym c.find.ensures.block ∙ c.unwrap-block.ensures) c.requires.range c.write.ensures

pub returns-clause-ok : goal.returns-clause-ok
returns-clause-ok c =
    written_shows c.self.inside.links c.self.inside.region c.self.invariant c.args.self.now c.self.view_is c.find.ensures.valid c.write.new.self c.unwrap-head.result c.unwrap-block.result
    c.args.position c.args.first c.args.from.now (subst (IsChain c.args.self.now.chains) (sym c.head.ensures ∙ c.unwrap-head.ensures) c.requires.chain)
    (sym c.find.ensures.block ∙ c.unwrap-block.ensures) c.requires.range c.write.ensures c.args.chain.now (sym c.head.ensures ∙ c.unwrap-head.ensures)

pub returns-clause-kept : goal.returns-clause-kept
returns-clause-kept c =
    written_keeps c.self.inside.links c.self.inside.region c.self.invariant c.args.self.now c.self.view_is c.find.ensures.valid c.write.new.self c.unwrap-head.result c.unwrap-block.result
    c.args.position c.args.first c.args.from.now (subst (IsChain c.args.self.now.chains) (sym c.head.ensures ∙ c.unwrap-head.ensures) c.requires.chain)
    (sym c.find.ensures.block ∙ c.unwrap-block.ensures) c.requires.range c.write.ensures c.args.chain.now (sym c.head.ensures ∙ c.unwrap-head.ensures)

pub returns-clause-valid : goal.returns-clause-valid
returns-clause-valid c = IsPool-filled c.self.inside.links c.self.inside.region c.self.invariant c.args.self.now c.self.view_is c.find.ensures.valid
