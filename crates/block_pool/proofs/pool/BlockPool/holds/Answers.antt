use Rattle.std.proofs.Common.{◌∙◌, Some, is_some, sym, ap, subst}
use Rattle.block_pool.specs.Chains.{IsChain, at, entries_of}
use Rattle.block_pool.proofs.PoolSteps.{chain_is, some_same}
use Rattle.block_pool.proofs.pool.BlockPool.holds.Goals as goal

pub find-requires : goal.find-requires
find-requires c =
    chain_is c.self.inside.links c.self.inside.region c.self.invariant c.args.self.now c.self.view_is (Some c.in-Some.head)
    (subst (IsChain c.args.self.now.chains) (sym c.head.ensures ∙ c.in-Some.is) c.requires)

pub returns : goal.returns
returns c =
    c.is_some.ensures ∙ ap is_some c.find.ensures.block ∙ sym (some_same c.self.inside.links c.self.inside.region c.self.invariant c.args.self.now c.self.view_is (Some c.in-Some.head) c.args.position)
    ∙ ap (λ h. is_some (at (entries_of c.args.self.now.chains h) c.args.position)) (sym (sym c.head.ensures ∙ c.in-Some.is))
