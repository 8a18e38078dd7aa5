-- What is lent is the block that the chain has at the position.
use Rattle.std.proofs.Common.{◌<◌, ◌∙◌, List, [], Some, sym, ap, subst, get_or, length}
use Rattle.std.specs.Option.{option_map}
use Rattle.block_pool.specs.Chains.{IsChain, at, entries_of}
use Rattle.block_pool.proofs.PoolLaws.{sized_at}
use Rattle.block_pool.proofs.PoolSteps.{at_is, block_within, chain_is}
use Rattle.block_pool.proofs.pool.BlockPool.block.Goals as goal
use Rattle.block_pool.proofs.pool.BlockPool.block.Goals.{In-Some-find}

pub find-requires : goal.find-requires
find-requires c =
    chain_is c.self.inside.links c.self.inside.region c.self.invariant c.args.self.now c.self.view_is (Some c.in-Some.head)
    (subst (IsChain c.args.self.now.chains) (sym c.head.ensures ∙ c.in-Some.is) c.requires)

pub returns-in_default-find-clause-ok : goal.returns-in_default-find-clause-ok
returns-in_default-find-clause-ok c =
    sym (ap (λ h. at (entries_of c.args.self.now.chains h) c.args.position) (sym c.head.ensures ∙ c.in-Some.is)
    ∙ at_is c.self.inside.links c.self.inside.region c.self.invariant c.args.self.now c.self.view_is (Some c.in-Some.head) c.args.position
    ∙ ap (option_map (λ b. get_or c.self.inside.region.blocks b [])) (sym c.find.ensures.block ∙ c.in_default-find.is))

within : (c : In-Some-find) → c.in-Some-find.block < length c.self.inside.region.blocks
within c =
    block_within c.self.inside.links c.self.inside.region c.self.invariant c.args.self.now c.self.view_is c.find.ensures.valid (Some c.in-Some.head) c.args.position c.in-Some-find.block
    (chain_is c.self.inside.links c.self.inside.region c.self.invariant c.args.self.now c.self.view_is (Some c.in-Some.head)
    (subst (IsChain c.args.self.now.chains) (sym c.head.ensures ∙ c.in-Some.is) c.requires))
    (sym c.find.ensures.block ∙ c.in-Some-find.is)

pub block-requires : goal.block-requires
block-requires c = within (goal.at.block-requires c).In-Some-find

pub returns-clause-ok : goal.returns-clause-ok
returns-clause-ok c =
    ap Some c.block.ensures
    ∙ sym (ap (λ h. at (entries_of c.args.self.now.chains h) c.args.position) (sym c.head.ensures ∙ c.in-Some.is)
    ∙ at_is c.self.inside.links c.self.inside.region c.self.invariant c.args.self.now c.self.view_is (Some c.in-Some.head) c.args.position
    ∙ ap (option_map (λ b. get_or c.self.inside.region.blocks b [])) (sym c.find.ensures.block ∙ c.in-Some-find.is))

pub returns-clause-len : goal.returns-clause-len
returns-clause-len c =
    ap length c.block.ensures ∙ sized_at 65536 c.in-Some-find.block c.self.inside.region.blocks c.self.invariant.sized (within (goal.at.returns-clause-len c).In-Some-find)
