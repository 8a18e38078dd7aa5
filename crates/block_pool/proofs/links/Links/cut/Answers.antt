use Rattle.std.proofs.Common.{◌≡◌, ◌≤◌, ◌+◌, ◌-◌, ℕ, suc, length, vec_capacity, Some, sym, ap, subst, ◌∙◌, arith}
use Rattle.block_pool.specs.Chains.{entries_of, below}
use Rattle.block_pool.specs.Links.{IsHeld, IsValid, link_state, free_of}
use Rattle.block_pool.specs.Nodes.{node_at}
use Rattle.block_pool.specs.declared.node.Node.{Node}
use Rattle.block_pool.proofs.Held.{IsValid-held}
use Rattle.block_pool.proofs.LinkLaws.{whole, IsCut-whole, IsCut-place, held_cut, fits_cut, free_cut, gone_cut, some_cut, uncut}
use Rattle.block_pool.proofs.Searching.{head_within, final_within, place_within, next_is}
use Rattle.block_pool.proofs.links.Links.cut.Goals as goal

pub node_of-first-requires : goal.node_of-first-requires
node_of-first-requires c =
    let lt = head_within c.self.inside.nodes.items c.args.head (whole c.self.invariant c.args.self.now c.self.view_is c.args.head c.requires) in
    let len = c.self.inside.nodes.ok in
    omega arith

pub cut_behind-requires-clause-head : goal.cut_behind-requires-clause-head
cut_behind-requires-clause-head c =
    let lt = head_within c.self.inside.nodes.items c.args.head (whole c.self.invariant c.args.self.now c.self.view_is c.args.head c.requires) in
    let len = c.self.inside.nodes.ok in
    omega arith

pub cut_behind-requires-clause-last : goal.cut_behind-requires-clause-last
cut_behind-requires-clause-last c =
    let lt = final_within c.self.inside.nodes.items c.args.head (whole c.self.invariant c.args.self.now c.self.view_is c.args.head c.requires) in
    let len = c.self.inside.nodes.ok in
    omega arith

pub overflow_add-self : goal.overflow_add-self
overflow_add-self c =
    let cut =
    IsCut-whole c.self.invariant c.args.self.now c.self.view_is c.args.head c.args.position c.requires
    (subst (λ (n : Node). c.args.position ≤ n.position) c.node_of-first.ensures c.if-position-first.true) in
    let fits = fits_cut c.self.invariant c.args.self.now c.self.view_is c.args.head c.args.position c.args.head 0 c.requires cut in
    let count = ap (λ (n : Node). n.count) c.node_of-first.ensures in
    let len = c.self.inside.nodes.ok in
    let small = c.self.inside.nodes.small in
    omega arith

-- so many are freed
freed_is : (freed count all : ℕ) → count ≡ all → freed + (all - 0) ≡ freed + count
freed_is freed count all e = omega arith

pub invariant_of-self : goal.invariant_of-self
invariant_of-self c =
    let cut =
    IsCut-whole c.self.invariant c.args.self.now c.self.view_is c.args.head c.args.position c.requires
    (subst (λ (n : Node). c.args.position ≤ n.position) c.node_of-first.ensures c.if-position-first.true) in
    let count = ap (λ (n : Node). n.count) c.node_of-first.ensures in
    subst (λ n. IsHeld c.cut_behind.new.nodes.items c.args.head n c.self.inside.blocks (vec_capacity c.cut_behind.new.nodes))
    (freed_is c.self.inside.freed c.node_of-first.result.count (node_at c.self.inside.nodes.items c.args.head).count count)
    (held_cut c.self.invariant c.args.self.now c.self.view_is c.args.head c.args.position c.args.head 0 c.requires cut c.cut_behind.new.nodes.items _ c.cut_behind.ensures.nodes
    c.cut_behind.ensures.room)

pub returns-then-position-first-clause-chains : goal.returns-then-position-first-clause-chains
returns-then-position-first-clause-chains c =
    let cut =
    IsCut-whole c.self.invariant c.args.self.now c.self.view_is c.args.head c.args.position c.requires
    (subst (λ (n : Node). c.args.position ≤ n.position) c.node_of-first.ensures c.if-position-first.true) in
    (gone_cut c.self.invariant c.args.self.now c.self.view_is c.args.head c.args.position c.args.head 0 c.requires cut c.cut_behind.new.nodes.items c.cut_behind.ensures.nodes (λ i. 0)).0

pub returns-then-position-first-clause-head : goal.returns-then-position-first-clause-head
returns-then-position-first-clause-head c =
    let cut =
    IsCut-whole c.self.invariant c.args.self.now c.self.view_is c.args.head c.args.position c.requires
    (subst (λ (n : Node). c.args.position ≤ n.position) c.node_of-first.ensures c.if-position-first.true) in
    (gone_cut c.self.invariant c.args.self.now c.self.view_is c.args.head c.args.position c.args.head 0 c.requires cut c.cut_behind.new.nodes.items c.cut_behind.ensures.nodes (λ i. 0)).1

pub returns-then-position-first-clause-free : goal.returns-then-position-first-clause-free
returns-then-position-first-clause-free c =
    let cut =
    IsCut-whole c.self.invariant c.args.self.now c.self.view_is c.args.head c.args.position c.requires
    (subst (λ (n : Node). c.args.position ≤ n.position) c.node_of-first.ensures c.if-position-first.true) in
    let count = ap (λ (n : Node). n.count) c.node_of-first.ensures in
    subst (λ n. free_of (link_state c.cut_behind.new.nodes.items c.args.head n c.self.inside.blocks) + length (below (entries_of c.args.self.now.chains (Some c.args.head)) c.args.position)
    ≡ free_of c.args.self.now + length (entries_of c.args.self.now.chains (Some c.args.head)))
    (freed_is c.self.inside.freed c.node_of-first.result.count (node_at c.self.inside.nodes.items c.args.head).count count)
    (free_cut c.self.invariant c.args.self.now c.self.view_is c.args.head c.args.position c.args.head 0 c.requires cut c.cut_behind.new.nodes.items c.cut_behind.ensures.nodes)

pub place_below-place-requires-clause-chain : goal.place_below-place-requires-clause-chain
place_below-place-requires-clause-chain c = whole c.self.invariant c.args.self.now c.self.view_is c.args.head c.requires

pub returns-then-place-first-clause-chains : goal.returns-then-place-first-clause-chains
returns-then-place-first-clause-chains c =
    (uncut c.self.invariant c.args.self.now c.self.view_is c.args.head c.args.position c.place_below-place.result.block c.place_below-place.result.kept c.requires c.place_below-place.ensures
    (c.if-place-first.true ∙ ap (λ (n : Node). n.count) c.node_of-first.ensures)).0

pub returns-then-place-first-clause-head : goal.returns-then-place-first-clause-head
returns-then-place-first-clause-head c =
    (uncut c.self.invariant c.args.self.now c.self.view_is c.args.head c.args.position c.place_below-place.result.block c.place_below-place.result.kept c.requires c.place_below-place.ensures
    (c.if-place-first.true ∙ ap (λ (n : Node). n.count) c.node_of-first.ensures)).1

pub returns-then-place-first-clause-free : goal.returns-then-place-first-clause-free
returns-then-place-first-clause-free c =
    ap (λ es. free_of c.args.self.now + length es)
    (uncut c.self.invariant c.args.self.now c.self.view_is c.args.head c.args.position c.place_below-place.result.block c.place_below-place.result.kept c.requires c.place_below-place.ensures
    (c.if-place-first.true ∙ ap (λ (n : Node). n.count) c.node_of-first.ensures)).2

pub node_of-tail-requires : goal.node_of-tail-requires
node_of-tail-requires c =
    let w = whole c.self.invariant c.args.self.now c.self.view_is c.args.head c.requires in
    let lt =
    place_within c.self.inside.nodes.items c.args.head w c.place_below-place.result.kept c.place_below-place.result.block c.place_below-place.ensures.some c.place_below-place.ensures.few
    c.place_below-place.ensures.at in
    let len = c.self.inside.nodes.ok in
    omega arith

pub cut_behind-requires-2-clause-last : goal.cut_behind-requires-2-clause-last
cut_behind-requires-2-clause-last c =
    let lt = final_within c.self.inside.nodes.items c.args.head (whole c.self.invariant c.args.self.now c.self.view_is c.args.head c.requires) in
    let len = c.self.inside.nodes.ok in
    omega arith

pub overflow_add-self-2 : goal.overflow_add-self-2
overflow_add-self-2 c =
    let count = ap (λ (n : Node). n.count) c.node_of-first.ensures in
    let cut =
    IsCut-place c.self.invariant c.args.self.now c.self.view_is c.args.head c.args.position c.place_below-place.result.block c.place_below-place.result.kept c.place_below-place.ensures
    (λ e. c.if-place-first.false (e ∙ sym count)) in
    let fits = fits_cut c.self.invariant c.args.self.now c.self.view_is c.args.head c.args.position c.place_below-place.result.block c.place_below-place.result.kept c.requires cut in
    let len = c.self.inside.nodes.ok in
    let small = c.self.inside.nodes.small in
    omega arith

pub invariant_of-self-2 : goal.invariant_of-self-2
invariant_of-self-2 c =
    let count = ap (λ (n : Node). n.count) c.node_of-first.ensures in
    let w = whole c.self.invariant c.args.self.now c.self.view_is c.args.head c.requires in
    let tail =
    ap (λ (n : Node). n.next) c.node_of-tail.ensures
    ∙ next_is c.self.inside.nodes.items c.args.head w c.place_below-place.result.kept c.place_below-place.result.block c.place_below-place.ensures.some c.place_below-place.ensures.at in
    let cut =
    IsCut-place c.self.invariant c.args.self.now c.self.view_is c.args.head c.args.position c.place_below-place.result.block c.place_below-place.result.kept c.place_below-place.ensures
    (λ e. c.if-place-first.false (e ∙ sym count)) in
    subst (λ n. IsHeld c.cut_behind-2.new.nodes.items c.node_of-tail.result.next (c.self.inside.freed + (n - c.place_below-place.result.kept)) c.self.inside.blocks
    (vec_capacity c.cut_behind-2.new.nodes)) (sym count)
    (subst (λ n. IsHeld c.cut_behind-2.new.nodes.items n (c.self.inside.freed + ((node_at c.self.inside.nodes.items c.args.head).count - c.place_below-place.result.kept)) c.self.inside.blocks
    (vec_capacity c.cut_behind-2.new.nodes)) (sym tail)
    (held_cut c.self.invariant c.args.self.now c.self.view_is c.args.head c.args.position c.place_below-place.result.block c.place_below-place.result.kept c.requires cut c.cut_behind-2.new.nodes.items
    _ c.cut_behind-2.ensures.nodes c.cut_behind-2.ensures.room))

-- the place keeps at least one block
one_more : (n : ℕ) → 1 ≤ n → n ≡ suc (n - 1)
one_more n h = omega arith

pub returns-clause-chains : goal.returns-clause-chains
returns-clause-chains c =
    let count = ap (λ (n : Node). n.count) c.node_of-first.ensures in
    let cut =
    IsCut-place c.self.invariant c.args.self.now c.self.view_is c.args.head c.args.position c.place_below-place.result.block c.place_below-place.result.kept c.place_below-place.ensures
    (λ e. c.if-place-first.false (e ∙ sym count)) in
    (some_cut c.self.invariant c.args.self.now c.self.view_is c.args.head c.args.position c.place_below-place.result.block c.place_below-place.result.kept c.requires cut c.cut_behind-2.new.nodes.items
    (c.place_below-place.result.kept - 1)
    c.cut_behind-2.ensures.nodes (one_more c.place_below-place.result.kept c.place_below-place.ensures.some)).0

pub returns-clause-head : goal.returns-clause-head
returns-clause-head c =
    let count = ap (λ (n : Node). n.count) c.node_of-first.ensures in
    let cut =
    IsCut-place c.self.invariant c.args.self.now c.self.view_is c.args.head c.args.position c.place_below-place.result.block c.place_below-place.result.kept c.place_below-place.ensures
    (λ e. c.if-place-first.false (e ∙ sym count)) in
    (some_cut c.self.invariant c.args.self.now c.self.view_is c.args.head c.args.position c.place_below-place.result.block c.place_below-place.result.kept c.requires cut c.cut_behind-2.new.nodes.items
    (c.place_below-place.result.kept - 1)
    c.cut_behind-2.ensures.nodes (one_more c.place_below-place.result.kept c.place_below-place.ensures.some)).1

pub returns-clause-free : goal.returns-clause-free
returns-clause-free c =
    let count = ap (λ (n : Node). n.count) c.node_of-first.ensures in
    let w = whole c.self.invariant c.args.self.now c.self.view_is c.args.head c.requires in
    let tail =
    ap (λ (n : Node). n.next) c.node_of-tail.ensures
    ∙ next_is c.self.inside.nodes.items c.args.head w c.place_below-place.result.kept c.place_below-place.result.block c.place_below-place.ensures.some c.place_below-place.ensures.at in
    let cut =
    IsCut-place c.self.invariant c.args.self.now c.self.view_is c.args.head c.args.position c.place_below-place.result.block c.place_below-place.result.kept c.place_below-place.ensures
    (λ e. c.if-place-first.false (e ∙ sym count)) in
    let left = length (below (entries_of c.args.self.now.chains (Some c.args.head)) c.args.position) in
    let was = free_of c.args.self.now + length (entries_of c.args.self.now.chains (Some c.args.head)) in
    subst (λ n. free_of (link_state c.cut_behind-2.new.nodes.items c.node_of-tail.result.next (c.self.inside.freed + (n - c.place_below-place.result.kept)) c.self.inside.blocks) + left ≡ was)
    (sym count)
    (subst (λ n. free_of
    (link_state c.cut_behind-2.new.nodes.items n (c.self.inside.freed + ((node_at c.self.inside.nodes.items c.args.head).count - c.place_below-place.result.kept)) c.self.inside.blocks) + left
    ≡ was) (sym tail)
    (free_cut c.self.invariant c.args.self.now c.self.view_is c.args.head c.args.position c.place_below-place.result.block c.place_below-place.result.kept c.requires cut c.cut_behind-2.new.nodes.items
    c.cut_behind-2.ensures.nodes))

pub returns-then-position-first-clause-valid : goal.returns-then-position-first-clause-valid
returns-then-position-first-clause-valid c =
    subst IsValid c.self.view_is (IsValid-held c.self.inside.nodes.items c.self.inside.first_freed c.self.inside.freed c.self.inside.blocks (vec_capacity c.self.inside.nodes) c.self.invariant)

pub returns-then-place-first-clause-valid : goal.returns-then-place-first-clause-valid
returns-then-place-first-clause-valid c =
    subst IsValid c.self.view_is (IsValid-held c.self.inside.nodes.items c.self.inside.first_freed c.self.inside.freed c.self.inside.blocks (vec_capacity c.self.inside.nodes) c.self.invariant)

pub returns-clause-valid : goal.returns-clause-valid
returns-clause-valid c =
    subst IsValid c.self.view_is (IsValid-held c.self.inside.nodes.items c.self.inside.first_freed c.self.inside.freed c.self.inside.blocks (vec_capacity c.self.inside.nodes) c.self.invariant)
