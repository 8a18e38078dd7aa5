use Rattle.std.proofs.Common.{◌∙◌, Some, IsSome, sym, ap, subst, length, take, drop}
use Rattle.block_pool.specs.Chains.{IsChain, at, entries_of}
use Rattle.block_pool.specs.Pool.{block_at}
use Rattle.block_pool.proofs.PoolSteps.{chain_is, there_is, block_within, block_is}
use Rattle.block_pool.proofs.pool.BlockPool.read.Goals as goal

pub find-requires : goal.find-requires
find-requires c =
    chain_is c.self.inside.links c.self.inside.region c.self.invariant c.args.self.now c.self.view_is (Some c.unwrap-head.result)
    (subst (IsChain c.args.self.now.chains) (sym c.head.ensures ∙ c.unwrap-head.ensures) c.requires.chain)

pub unwrap-block-requires : goal.unwrap-block-requires
unwrap-block-requires c =
    subst IsSome (sym c.find.ensures.block)
    (there_is c.self.inside.links c.self.inside.region c.self.invariant c.args.self.now c.self.view_is (Some c.unwrap-head.result) c.args.position
    (subst (λ h. IsSome (at (entries_of c.args.self.now.chains h) c.args.position)) (sym c.head.ensures ∙ c.unwrap-head.ensures) c.requires.there))

pub read-requires-clause-block : goal.read-requires-clause-block
read-requires-clause-block c =
    block_within c.self.inside.links c.self.inside.region c.self.invariant c.args.self.now c.self.view_is c.find.ensures.valid (Some c.unwrap-head.result) c.args.position c.unwrap-block.result
    (chain_is c.self.inside.links c.self.inside.region c.self.invariant c.args.self.now c.self.view_is (Some c.unwrap-head.result)
    (subst (IsChain c.args.self.now.chains) (sym c.head.ensures ∙ c.unwrap-head.ensures) c.requires.chain))
    (sym c.find.ensures.block ∙ c.unwrap-block.ensures)

pub returns : goal.returns
returns c = record {
  ok = c.read.ensures ∙ ap (λ b. take (length c.args.out.now) (drop c.args.first b))
      (sym (block_is c.self.inside.links c.self.inside.region c.self.invariant c.args.self.now c.self.view_is (Some c.unwrap-head.result) c.args.position c.unwrap-block.result
      (sym c.find.ensures.block ∙ c.unwrap-block.ensures))
      ∙ ap (λ h. block_at c.args.self.now.chains h c.args.position) (sym (sym c.head.ensures ∙ c.unwrap-head.ensures)));
}
