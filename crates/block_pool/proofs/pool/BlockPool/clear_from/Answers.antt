use Rattle.std.proofs.Common.{ℕ, ◌+◌, ◌-◌, ◌≤◌, ◌∙◌, Some, IsSome, sym, subst, length, arith}
use Rattle.block_pool.specs.Chains.{IsChain, at, entries_of}
use Rattle.block_pool.proofs.PoolSteps.{chain_is, there_is, block_within, written_shows, written_filled, written_keeps, IsPool-filled}
use Rattle.staging_spec.specs.Content.{zeros}
use Rattle.block_pool.proofs.Parts.{length-zeros}
use Rattle.block_pool.proofs.pool.BlockPool.clear_from.Goals as goal

-- zeros up to the end of a block
zeros_fit : (first : ℕ) → first ≤ 65536 → first + length (zeros (65536 - first)) ≤ 65536
zeros_fit first le = let n = length-zeros (65536 - first) in omega arith

pub find-requires : goal.find-requires
find-requires c =
    chain_is c.self.inside.links c.self.inside.region c.self.invariant c.args.self.now c.self.view_is (Some c.unwrap-head.result)
    (subst (IsChain c.args.self.now.chains) (sym c.head.ensures ∙ c.unwrap-head.ensures) c.requires.chain)

pub unwrap-block-requires : goal.unwrap-block-requires
unwrap-block-requires c =
    subst IsSome (sym c.find.ensures.block)
    (there_is c.self.inside.links c.self.inside.region c.self.invariant c.args.self.now c.self.view_is (Some c.unwrap-head.result) c.args.position
    (subst (λ h. IsSome (at (entries_of c.args.self.now.chains h) c.args.position)) (sym c.head.ensures ∙ c.unwrap-head.ensures) c.requires.there))

pub clear_from-requires-clause-block : goal.clear_from-requires-clause-block
clear_from-requires-clause-block c =
    block_within c.self.inside.links c.self.inside.region c.self.invariant c.args.self.now c.self.view_is c.find.ensures.valid (Some c.unwrap-head.result) c.args.position c.unwrap-block.result
    (chain_is c.self.inside.links c.self.inside.region c.self.invariant c.args.self.now c.self.view_is (Some c.unwrap-head.result)
    (subst (IsChain c.args.self.now.chains) (sym c.head.ensures ∙ c.unwrap-head.ensures) c.requires.chain))
    (sym c.find.ensures.block ∙ c.unwrap-block.ensures)

pub invariant_of-self : goal.invariant_of-self
invariant_of-self c =
    written_filled c.self.inside.links c.self.inside.region c.self.invariant c.args.self.now c.self.view_is c.find.ensures.valid c.clear_from.new.self c.unwrap-head.result c.unwrap-block.result
    c.args.position c.args.first (zeros (65536 - c.args.first)) (subst (IsChain c.args.self.now.chains) (sym c.head.ensures ∙ c.unwrap-head.ensures) c.requires.chain)
    (sym c.find.ensures.block ∙ c.unwrap-block.ensures) (zeros_fit c.args.first c.requires.range) c.clear_from.ensures

pub returns-clause-ok : goal.returns-clause-ok
returns-clause-ok c =
    written_shows c.self.inside.links c.self.inside.region c.self.invariant c.args.self.now c.self.view_is c.find.ensures.valid c.clear_from.new.self c.unwrap-head.result c.unwrap-block.result
    c.args.position c.args.first (zeros (65536 - c.args.first)) (subst (IsChain c.args.self.now.chains) (sym c.head.ensures ∙ c.unwrap-head.ensures) c.requires.chain)
    (sym c.find.ensures.block ∙ c.unwrap-block.ensures) (zeros_fit c.args.first c.requires.range) c.clear_from.ensures c.args.chain.now (sym c.head.ensures ∙ c.unwrap-head.ensures)

pub returns-clause-kept : goal.returns-clause-kept
returns-clause-kept c =
    written_keeps c.self.inside.links c.self.inside.region c.self.invariant c.args.self.now c.self.view_is c.find.ensures.valid c.clear_from.new.self c.unwrap-head.result c.unwrap-block.result
    c.args.position c.args.first (zeros (65536 - c.args.first)) (subst (IsChain c.args.self.now.chains) (sym c.head.ensures ∙ c.unwrap-head.ensures) c.requires.chain)
    (sym c.find.ensures.block ∙ c.unwrap-block.ensures) (zeros_fit c.args.first c.requires.range) c.clear_from.ensures c.args.chain.now (sym c.head.ensures ∙ c.unwrap-head.ensures)

pub returns-clause-valid : goal.returns-clause-valid
returns-clause-valid c = IsPool-filled c.self.inside.links c.self.inside.region c.self.invariant c.args.self.now c.self.view_is c.find.ensures.valid
