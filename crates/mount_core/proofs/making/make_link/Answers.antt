-- The name of a link is looked at first, and then its target.
use Rattle.std.proofs.Common.{◌≡◌, ℕ, List, IfOk, subst}
use Rattle.bucket_api.specs.declared.objects.Pair.{Pair}
use Rattle.mount_core.proofs.NameLemmas.{link_named, target_text}
use Rattle.mount_core.specs.Errands.{plan_of}
use Rattle.mount_rules.specs.Making as making
use Rattle.mount_rules.specs.Requests.Create as create
use Rattle.mount_rules.specs.Rules.{at_node}
use Rattle.mount_rules.specs.View.{view_of}
use Rattle.mount_core.proofs.making.make_link.Goals as goal

pub target_pairs-requires : goal.target_pairs-requires
target_pairs-requires c = target_text c.args.name.now c.args.target.now (view_of c.args.mount.now.mount (at_node c.args.node)) c.requires

pub make-requires-clause-free : goal.make-requires-clause-free
make-requires-clause-free c = link_named c.args.name.now c.args.target.now (view_of c.args.mount.now.mount (at_node c.args.node)) c.requires

pub returns-clause-plan : goal.returns-clause-plan
returns-clause-plan c =
    let path = create.path_of c.args.name.now (view_of c.args.mount.now.mount (at_node c.args.node)) in
    subst (λ (pairs : List Pair). IfOk c.make.result (λ errand. (content : List ℕ) (second : ℕ) → plan_of errand content second ≡ making.plan path pairs second)) c.in_ok-pairs.ensures.ok c.make.ensures.plan
