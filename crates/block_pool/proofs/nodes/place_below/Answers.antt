use Rattle.std.proofs.Common.{◌≡◌, ◌<◌, ◌≤◌, ◌+◌, ◌-◌, ap, ◌∙◌, subst, arith, length}
use Rattle.block_pool.specs.Nodes.{node_at, step}
use Rattle.block_pool.proofs.Searching.{next_is, next_within}
use Rattle.block_pool.proofs.nodes.place_below.Goals as goal
use Rattle.block_pool.specs.declared.node.Node.{Node}

pub node_of-requires-in-loop-kept : goal.node_of-requires-in-loop-kept
node_of-requires-in-loop-kept c =
    let nodes = c.args.nodes.now.items in
    let few : c.loop-kept.kept < (node_at nodes c.args.head).count = subst (λ (n : Node). c.loop-kept.kept < n.count) c.node_of-first.ensures c.loop-kept-test.true in
    let lt : (node_at nodes c.loop-kept.block).next < length nodes =
    next_within nodes c.args.head c.requires.chain c.loop-kept.kept c.loop-kept.block c.loop-kept.auto.kept few c.loop-kept.invariant.0 in
    let same : c.node_of-next.result.next ≡ (node_at nodes c.loop-kept.block).next = ap (λ (n : Node). n.next) c.node_of-next.ensures in
    let len = c.args.nodes.now.ok in
    omega arith

pub returns-then-position-node_of : goal.returns-then-position-node_of
returns-then-position-node_of c =
    let nodes = c.args.nodes.now.items in
    let few : c.loop-kept.kept < (node_at nodes c.args.head).count = subst (λ (n : Node). c.loop-kept.kept < n.count) c.node_of-first.ensures c.loop-kept-test.true in
    let next = next_is nodes c.args.head c.requires.chain c.loop-kept.kept c.loop-kept.block c.loop-kept.auto.kept c.loop-kept.invariant.0 in
    record {
      some = c.loop-kept.auto.kept;
      few = omega arith;
      at = c.loop-kept.invariant.0;
      lower = c.loop-kept.invariant.1;
      upper = λ h. subst (λ b. c.args.position ≤ (node_at nodes b).position) (ap (λ (n : Node). n.next) c.node_of-next.ensures ∙ next)
          (subst (λ (n : Node). c.args.position ≤ n.position) c.node_of-in-loop-kept.ensures c.if-position-node_of.true);
    }

pub loop-kept-preserved : goal.loop-kept-preserved
loop-kept-preserved c =
    let nodes = c.args.nodes.now.items in
    let next = next_is nodes c.args.head c.requires.chain c.loop-kept.kept c.loop-kept.block c.loop-kept.auto.kept c.loop-kept.invariant.0 in
    let same : c.loop-kept.kept ≡ c.loop-kept.kept + 1 - 1 = omega arith in (
      ap (λ (n : Node). n.next) c.node_of-next.ensures ∙ next ∙ ap (λ n. step nodes n c.args.head) same,
      subst (λ (n : Node). n.position < c.args.position) c.node_of-in-loop-kept.ensures c.if-position-node_of.false,
    )
