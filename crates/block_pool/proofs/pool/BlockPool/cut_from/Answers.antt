use Rattle.std.proofs.Common.{◌≡◌, ◌∙◌, Some, sym, ap, subst}
use Rattle.block_pool.specs.Chains.{IsChain}
use Rattle.block_pool.specs.Pool.{cut_head}
use Rattle.block_pool.proofs.PoolSteps.{IsLess, chain_is, less_head, less_shows, less_filled, less_keeps}
use Rattle.block_pool.proofs.pool.BlockPool.cut_from.Goals as goal

pub cut-left-requires : goal.cut-left-requires
cut-left-requires c =
    chain_is c.self.inside.links c.self.inside.region c.self.invariant c.args.self.now c.self.view_is (Some c.in-Some.head)
    (subst (IsChain c.args.self.now.chains) (sym c.head.ensures ∙ c.in-Some.is) c.requires)

-- the chain has this head
was : (c : goal.After-set_head) → c.args.chain.now ≡ Some c.in-Some.head
was c = sym c.head.ensures ∙ c.in-Some.is

-- the facts of the cut
less : (c : goal.After-set_head) → IsLess c.self.inside.links c.self.inside.region c.self.invariant c.args.self.now c.self.view_is c.cut-left.new.self c.in-Some.head c.args.position c.cut-left.result
less c = record {
  own = subst (IsChain c.args.self.now.chains) (was c) c.requires;
  chains = c.cut-left.ensures.chains;
  heads = c.cut-left.ensures.head;
  free = c.cut-left.ensures.free;
  used = c.cut-left.ensures.used;
  blocks = c.cut-left.ensures.blocks;
}

pub invariant_of-self : goal.invariant_of-self
invariant_of-self c =
    less_filled c.self.inside.links c.self.inside.region c.self.invariant c.args.self.now c.self.view_is c.cut-left.ensures.valid c.cut-left.new.self c.in-Some.head c.args.position
    c.cut-left.result (less c)

pub returns-clause-ok : goal.returns-clause-ok
returns-clause-ok c =
    less_shows c.self.inside.links c.self.inside.region c.self.invariant c.args.self.now c.self.view_is c.cut-left.ensures.valid c.cut-left.new.self c.in-Some.head c.args.position c.cut-left.result
    (less c) c.args.chain.now c.set_head.new.self (was c) c.set_head.ensures

pub returns-clause-head : goal.returns-clause-head
returns-clause-head c =
    c.set_head.ensures
    ∙ less_head c.self.inside.links c.self.inside.region c.self.invariant c.args.self.now c.self.view_is c.cut-left.ensures.valid c.cut-left.new.self c.in-Some.head c.args.position
    c.cut-left.result (less c)
    ∙ ap (λ h. cut_head c.args.self.now.chains h c.args.position) (sym (was c))

pub returns-clause-kept : goal.returns-clause-kept
returns-clause-kept c =
    less_keeps c.self.inside.links c.self.inside.region c.self.invariant c.args.self.now c.self.view_is c.cut-left.ensures.valid c.cut-left.new.self c.in-Some.head c.args.position c.cut-left.result
    (less c) c.args.chain.now c.set_head.new.self (was c) c.set_head.ensures
