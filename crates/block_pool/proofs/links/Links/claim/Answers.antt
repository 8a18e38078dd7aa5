use Rattle.std.proofs.Common.{◌<◌, length, sym, subst, ◌∙◌, arith}
use Rattle.block_pool.specs.Links.{IsFree, link_state, free_of}
use Rattle.block_pool.proofs.LinkLaws.{next_held, next_free, next_used, next_within, fresh_held, fresh_free, fresh_shows}
use Rattle.block_pool.proofs.Walks.{length-walk}
use Rattle.block_pool.proofs.links.Links.claim.Goals as goal

pub node_of-requires : goal.node_of-requires
node_of-requires c =
    let lt = next_within c.self.invariant c.args.self.now c.self.view_is c.if-self-gt0.true in
    let len = c.self.inside.nodes.ok in
    omega arith

pub invariant_of-self : goal.invariant_of-self
invariant_of-self c = next_held c.self.invariant c.args.self.now c.self.view_is c.if-self-gt0.true c.node_of.result c.node_of.ensures

pub returns-then-self-gt0-clause-block : goal.returns-then-self-gt0-clause-block
returns-then-self-gt0-clause-block c = next_free c.self.invariant c.args.self.now c.self.view_is c.if-self-gt0.true c.node_of.result c.node_of.ensures

pub returns-then-self-gt0-clause-few : goal.returns-then-self-gt0-clause-few
returns-then-self-gt0-clause-few c = c.self.invariant.few

pub returns-then-self-gt0-clause-used : goal.returns-then-self-gt0-clause-used
returns-then-self-gt0-clause-used c = (next_used c.self.invariant c.args.self.now c.self.view_is c.if-self-gt0.true).0

pub returns-then-self-gt0-clause-within : goal.returns-then-self-gt0-clause-within
returns-then-self-gt0-clause-within c = (next_used c.self.invariant c.args.self.now c.self.view_is c.if-self-gt0.true).1

-- a block was never used
unused : goal.After-add_node → Type 0
unused c = length c.self.inside.nodes.items < c.self.inside.blocks

is_unused : (c : goal.After-add_node) → unused c
unfolding unused
is_unused c =
    let free = subst (λ v. 0 < free_of v) (sym c.self.view_is) c.requires in
    let walked = length-walk c.self.inside.nodes.items c.self.inside.freed c.self.inside.first_freed in
    let none = c.if-self-gt0.false in
    omega arith

pub add_node-requires : goal.add_node-requires
add_node-requires c =
    let free = subst (λ v. 0 < free_of v) (sym c.self.view_is) c.requires in
    let walked = length-walk c.self.inside.nodes.items c.self.inside.freed c.self.inside.first_freed in
    let none = c.if-self-gt0.false in
    let len = c.self.inside.nodes.ok in
    let room = c.self.invariant.room in
    omega arith

pub invariant_of-self-2 : goal.invariant_of-self-2
unfolding unused
invariant_of-self-2 c = fresh_held c.self.invariant c.args.self.now c.self.view_is c.add_node.new.nodes.items _ (is_unused c) c.add_node.ensures.nodes c.add_node.ensures.room

pub returns-clause-block : goal.returns-clause-block
returns-clause-block c =
    let len = c.self.inside.nodes.ok in
    subst (IsFree (link_state c.add_node.new.nodes.items c.self.inside.first_freed c.self.inside.freed c.self.inside.blocks)) (sym (c.len-block.ensures ∙ len.0))
    (fresh_free c.self.invariant c.args.self.now c.self.view_is c.add_node.new.nodes.items c.add_node.ensures.nodes)

pub returns-clause-chains : goal.returns-clause-chains
returns-clause-chains c = fresh_shows c.self.invariant c.args.self.now c.self.view_is c.add_node.new.nodes.items c.add_node.ensures.nodes

pub returns-clause-few : goal.returns-clause-few
returns-clause-few c = (invariant_of-self-2 c).few
