use Rattle.std.proofs.Common.{◌≡◌, ◌⊎◌, None, Some, is_some, sym, ap, subst}
use Rattle.block_pool.specs.Chains.{IsChain, at, entries_of, inserted, replaced}
use Rattle.block_pool.proofs.PoolSteps.{IsPut, chain_is, absent_is, put_shows, put_filled, put_keeps, IsPool-filled}
use Rattle.block_pool.proofs.pool.BlockPool.insert_sorted.Goals as goal

pub link-head-requires-clause-chain : goal.link-head-requires-clause-chain
link-head-requires-clause-chain c =
    subst (λ m. IsChain m c.head.result) (sym c.claim-block.ensures.chains)
    (subst (IsChain c.self.inside.links.chains) (sym c.head.ensures)
    (chain_is c.self.inside.links c.self.inside.region c.self.invariant c.args.self.now c.self.view_is c.args.chain.now c.requires.chain))

pub link-head-requires-clause-absent : goal.link-head-requires-clause-absent
link-head-requires-clause-absent c =
    subst (λ m. at (entries_of m c.head.result) c.args.position ≡ None) (sym c.claim-block.ensures.chains)
    (subst (λ h. at (entries_of c.self.inside.links.chains h) c.args.position ≡ None) (sym c.head.ensures)
    (absent_is c.self.inside.links c.self.inside.region c.self.invariant c.args.self.now c.self.view_is c.args.chain.now c.args.position c.requires.absent))

-- the facts of each call
put : (c : goal.After-set_head) → IsPut c.self.inside.links c.self.inside.region c.self.invariant c.args.self.now c.self.view_is
    c.claim-block.new.self c.link-head.new.self c.ready.new.self c.args.chain.now c.claim-block.result c.args.position c.link-head.result
put c = record {
  own = c.requires.chain;
  loose = c.claim-block.ensures.block;
  free = c.claim-block.ensures.free;
  used = c.claim-block.ensures.used;
  within = c.claim-block.ensures.within;
  few = c.claim-block.ensures.few;
  chains = c.claim-block.ensures.chains;
  blocks = c.claim-block.ensures.blocks;
  bytes = c.ready.ensures;
  links = subst
      (λ h. c.link-head.new.self
      ≡ record c.claim-block.new.self
      { chains = replaced c.claim-block.new.self.chains h (Some c.link-head.result) (inserted (entries_of c.claim-block.new.self.chains h) c.args.position c.claim-block.result) }) c.head.ensures
      c.link-head.ensures.links;
  heads = subst (λ h. (c.link-head.result ≡ c.claim-block.result) ⊎ (h ≡ Some c.link-head.result)) c.head.ensures c.link-head.ensures.head;
}

pub invariant_of-self : goal.invariant_of-self
invariant_of-self c =
    put_filled c.self.inside.links c.self.inside.region c.self.invariant c.args.self.now c.self.view_is c.free.ensures.valid c.claim-block.new.self c.link-head.new.self c.ready.new.self
    c.args.chain.now c.claim-block.result c.args.position c.link-head.result (put c)

pub returns-clause-ok : goal.returns-clause-ok
returns-clause-ok c = (
  put_shows c.self.inside.links c.self.inside.region c.self.invariant c.args.self.now c.self.view_is c.free.ensures.valid c.claim-block.new.self c.link-head.new.self c.ready.new.self
      c.args.chain.now c.claim-block.result c.args.position c.link-head.result (put c) c.set_head.new.self c.set_head.ensures,
  ap is_some c.set_head.ensures,
)

pub returns-clause-kept : goal.returns-clause-kept
returns-clause-kept c =
    put_keeps c.self.inside.links c.self.inside.region c.self.invariant c.args.self.now c.self.view_is c.free.ensures.valid c.claim-block.new.self c.link-head.new.self c.ready.new.self
    c.args.chain.now c.claim-block.result c.args.position c.link-head.result (put c) c.set_head.new.self c.set_head.ensures

pub returns-clause-valid : goal.returns-clause-valid
returns-clause-valid c = IsPool-filled c.self.inside.links c.self.inside.region c.self.invariant c.args.self.now c.self.view_is c.free.ensures.valid

pub returns-then-free-eq0-clause-valid : goal.returns-then-free-eq0-clause-valid
returns-then-free-eq0-clause-valid c = IsPool-filled c.self.inside.links c.self.inside.region c.self.invariant c.args.self.now c.self.view_is c.free.ensures.valid
