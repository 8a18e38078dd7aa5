use Rattle.std.proofs.Common.{sym, ap, ◌∙◌, subst}
use Rattle.block_pool.proofs.Searching.{none_behind, found_last, left_more, Left}
use Rattle.block_pool.proofs.nodes.block_at.Goals as goal
use Rattle.block_pool.specs.Nodes.{node_at}
use Rattle.std.proofs.Common.{◌≡◌, ◌<◌, ◌+◌, Some}
use Rattle.block_pool.specs.declared.node.Node.{Node}

pub returns-then-last-position : goal.returns-then-last-position
returns-then-last-position c =
    let nodes = c.args.nodes.now.items in
    sym (none_behind nodes c.args.head c.requires c.args.position
    (subst (λ (n : Node). (node_at nodes n.last).position < c.args.position) c.node_of-first.ensures
    (subst (λ (n : Node). n.position < c.args.position) c.node_of-last.ensures c.if-last-position.true)))

pub returns-then-last-position-2 : goal.returns-then-last-position-2
returns-then-last-position-2 c =
    let nodes = c.args.nodes.now.items in
    sym (found_last nodes c.args.head c.requires c.args.position
    (subst (λ (n : Node). (node_at nodes n.last).position ≡ c.args.position) c.node_of-first.ensures
    (subst (λ (n : Node). n.position ≡ c.args.position) c.node_of-last.ensures c.if-last-position-2.true))
    ∙ ap (λ (n : Node). Some n.last) (sym c.node_of-first.ensures))

pub loop-steps-preserved : goal.loop-steps-preserved
loop-steps-preserved c =
    let nodes = c.args.nodes.now.items in
    let here : (node_at nodes c.loop-steps.block).next ≡ c.node_of-node.result.next = ap (λ (n : Node). n.next) (sym c.node_of-node.ensures) in
    let more = left_more nodes c.args.head c.requires c.args.position c.loop-steps.steps c.loop-steps.block
    (subst (λ (n : Node). c.loop-steps.steps < n.count) c.node_of-first.ensures c.loop-steps-test.true)
    c.loop-steps.invariant (λ e. c.if-node-position.false (ap (λ (n : Node). n.position) c.node_of-node.ensures ∙ e)) in
    subst (Left nodes c.args.head c.requires c.args.position (c.loop-steps.steps + 1)) here more
