-- No pairs are given.
use Rattle.std.proofs.Common.{◌≡◌, ℕ, List, IfOk, subst, sym}
use Rattle.bucket_api.specs.Metadata.{KeysRise}
use Rattle.bucket_api.specs.declared.objects.Pair.{Pair}
use Rattle.mount_core.proofs.PairsInOrder.{none_rise}
use Rattle.mount_core.specs.Errands.{plan_of}
use Rattle.mount_rules.specs.Making as making
use Rattle.mount_rules.specs.Requests.Create as create
use Rattle.mount_rules.specs.Rules.{at_node}
use Rattle.mount_rules.specs.View.{view_of}
use Rattle.mount_core.proofs.making.make_file.Goals as goal

pub make-requires-clause-ordered : goal.make-requires-clause-ordered
make-requires-clause-ordered c = subst KeysRise (sym c.new.ensures.items) none_rise

pub returns-clause-plan : goal.returns-clause-plan
returns-clause-plan c =
    let path = create.path_of c.args.name.now (view_of c.args.mount.now.mount (at_node c.args.node)) in
    subst (λ (pairs : List Pair). IfOk c.make.result (λ errand. (content : List ℕ) (second : ℕ) → plan_of errand content second ≡ making.plan path pairs second)) c.new.ensures.items c.make.ensures.plan
