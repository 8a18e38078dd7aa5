use Rattle.std.proofs.Common.{◌≡◌, ◌<◌, ◌≤◌, None, subst, arith}
use Rattle.block_pool.specs.Chains.{IsChain, at, entries_of}
use Rattle.block_pool.specs.Nodes.{begun, put_before, put_behind}
use Rattle.block_pool.specs.declared.node.Node.{Node}
use Rattle.block_pool.proofs.LinkLaws.{whole, not_first, relinks_place, relinks_before, relinks_begun, held_after, shows_after, shows_begun, room_is}
use Rattle.block_pool.proofs.Searching.{head_within, place_within}
use Rattle.block_pool.proofs.links.Links.link.Goals as goal

pub invariant_of-self : goal.invariant_of-self
invariant_of-self c =
    held_after c.self.invariant c.args.self.now c.self.view_is (begun c.self.inside.nodes.items c.args.block c.args.position) c.begin.new.nodes.items c.args.block c.args.block
    c.args.block c.args.position _
    c.requires.block (relinks_begun c.self.invariant c.args.self.now c.self.view_is c.args.block c.args.position c.requires.block) c.begin.ensures.nodes c.begin.ensures.room

pub returns-in_default-clause-links : goal.returns-in_default-clause-links
returns-in_default-clause-links c =
    shows_begun c.self.invariant c.args.self.now c.self.view_is c.begin.new.nodes.items c.args.head c.args.block c.args.position c.in_default.is c.requires.block c.begin.ensures.nodes

pub node_of-requires : goal.node_of-requires
node_of-requires c =
    let lt =
    head_within c.self.inside.nodes.items c.in-Some.head
    (whole c.self.invariant c.args.self.now c.self.view_is c.in-Some.head (subst (λ q. IsChain c.args.self.now.chains q) c.in-Some.is c.requires.chain)) in
    let len = c.self.inside.nodes.ok in
    omega arith

pub put_before-requires-clause-count : goal.put_before-requires-clause-count
put_before-requires-clause-count c =
    let le = room_is c.self.invariant c.args.self.now c.self.view_is c.in-Some.head c.args.block c.requires.block in
    let len = c.self.inside.nodes.ok in
    let small = c.self.inside.nodes.small in
    omega arith

pub invariant_of-self-then-position-node_of : goal.invariant_of-self-then-position-node_of
invariant_of-self-then-position-node_of c =
    held_after c.self.invariant c.args.self.now c.self.view_is (put_before c.self.inside.nodes.items c.in-Some.head c.args.block c.args.position) c.put_before.new.nodes.items c.in-Some.head
    c.args.block c.args.block c.args.position _
    c.requires.block
    (relinks_before c.self.invariant c.args.self.now c.self.view_is c.in-Some.head c.args.block c.args.position
    (subst (λ q. IsChain c.args.self.now.chains q) c.in-Some.is c.requires.chain) c.requires.block
    (subst (λ (n : Node). c.args.position < n.position) c.node_of.ensures c.if-position-node_of.true))
    c.put_before.ensures.nodes c.put_before.ensures.room

pub returns-then-position-node_of-clause-links : goal.returns-then-position-node_of-clause-links
returns-then-position-node_of-clause-links c =
    shows_after c.self.invariant c.args.self.now c.self.view_is (put_before c.self.inside.nodes.items c.in-Some.head c.args.block c.args.position) c.put_before.new.nodes.items c.args.head
    c.in-Some.head c.args.block c.args.block c.args.position
    c.in-Some.is c.requires.block
    (relinks_before c.self.invariant c.args.self.now c.self.view_is c.in-Some.head c.args.block c.args.position
    (subst (λ q. IsChain c.args.self.now.chains q) c.in-Some.is c.requires.chain) c.requires.block
    (subst (λ (n : Node). c.args.position < n.position) c.node_of.ensures c.if-position-node_of.true))
    c.put_before.ensures.nodes

pub place_below-place-requires-clause-chain : goal.place_below-place-requires-clause-chain
place_below-place-requires-clause-chain c = whole c.self.invariant c.args.self.now c.self.view_is c.in-Some.head (subst (λ q. IsChain c.args.self.now.chains q) c.in-Some.is c.requires.chain)

pub place_below-place-requires-clause-first : goal.place_below-place-requires-clause-first
place_below-place-requires-clause-first c =
    let apart = not_first c.self.invariant c.args.self.now c.self.view_is c.in-Some.head c.args.position (subst (λ q. IsChain c.args.self.now.chains q) c.in-Some.is c.requires.chain)
    (subst (λ q. at (entries_of c.args.self.now.chains q) c.args.position ≡ None) c.in-Some.is c.requires.absent) in
    let le = c.if-position-node_of.false in
    omega (arith, subst (λ (n : Node). n.position ≤ c.args.position) c.node_of.ensures c.if-position-node_of.false)

pub put_behind-requires-clause-place : goal.put_behind-requires-clause-place
put_behind-requires-clause-place c =
    let w = whole c.self.invariant c.args.self.now c.self.view_is c.in-Some.head (subst (λ q. IsChain c.args.self.now.chains q) c.in-Some.is c.requires.chain) in
    let lt =
    place_within c.self.inside.nodes.items c.in-Some.head w c.place_below-place.result.kept c.place_below-place.result.block c.place_below-place.ensures.some c.place_below-place.ensures.few
    c.place_below-place.ensures.at in
    let len = c.self.inside.nodes.ok in
    omega arith

pub put_behind-requires-clause-count : goal.put_behind-requires-clause-count
put_behind-requires-clause-count c =
    let le = room_is c.self.invariant c.args.self.now c.self.view_is c.in-Some.head c.args.block c.requires.block in
    let len = c.self.inside.nodes.ok in
    let small = c.self.inside.nodes.small in
    omega arith

pub invariant_of-self-2 : goal.invariant_of-self-2
invariant_of-self-2 c =
    held_after c.self.invariant c.args.self.now c.self.view_is (put_behind c.self.inside.nodes.items c.in-Some.head c.place_below-place.result.block c.args.block c.args.position)
    c.put_behind.new.nodes.items
    c.in-Some.head c.in-Some.head c.args.block c.args.position _ c.requires.block
    (relinks_place c.self.invariant c.args.self.now c.self.view_is c.in-Some.head c.args.block c.args.position c.place_below-place.result.block c.place_below-place.result.kept c.requires.block
    c.place_below-place.ensures
    (subst (λ q. at (entries_of c.args.self.now.chains q) c.args.position ≡ None) c.in-Some.is c.requires.absent))
    c.put_behind.ensures.nodes c.put_behind.ensures.room

pub returns-clause-links : goal.returns-clause-links
returns-clause-links c =
    shows_after c.self.invariant c.args.self.now c.self.view_is (put_behind c.self.inside.nodes.items c.in-Some.head c.place_below-place.result.block c.args.block c.args.position)
    c.put_behind.new.nodes.items
    c.args.head c.in-Some.head c.in-Some.head c.args.block c.args.position c.in-Some.is c.requires.block
    (relinks_place c.self.invariant c.args.self.now c.self.view_is c.in-Some.head c.args.block c.args.position c.place_below-place.result.block c.place_below-place.result.kept c.requires.block
    c.place_below-place.ensures
    (subst (λ q. at (entries_of c.args.self.now.chains q) c.args.position ≡ None) c.in-Some.is c.requires.absent))
    c.put_behind.ensures.nodes
