-- Both names are parts of live directories, and their paths are those of the rules.
use Rattle.std.proofs.Common.{◌≡◌, List, None, ℕ, ap, subst, sym, ◌∙◌}
use Rattle.mount_core.proofs.NameLemmas.{names_free}
use Rattle.mount_core.proofs.NamePlans.{asks_nothing, moves_object}
use Rattle.mount_laws.specs.Renames.{renamed}
use Rattle.mount_model.specs.declared.config.Config.{Config}
use Rattle.mount_rules.specs.Guards.{in_directory, part_refusal, path_in}
use Rattle.mount_rules.specs.Requests.Rename as rename
use Rattle.mount_rules.specs.View.{sight_at, view_of}
use Rattle.mount_core.proofs.removing.rename.Goals as goal

pub path_of-requires : goal.path_of-requires
path_of-requires c =
    let names = renamed c.args.newdir c.args.name.now c.args.newname.now in
    subst (λ (part : List ℕ). in_directory (sight_at c.args.mount.now.mount.table c.args.node) (part_refusal part) ≡ None) (sym c.strip_suffix-suffix.ensures.bare)
    (names_free names (view_of c.args.mount.now.mount (rename.looks c.args.node names)) c.requires).0

pub path_of-requires-2 : goal.path_of-requires-2
path_of-requires-2 c =
    let names = renamed c.args.newdir c.args.name.now c.args.newname.now in
    (names_free names (view_of c.args.mount.now.mount (rename.looks c.args.node names)) c.requires).1

pub returns-then-eq-clause-plan : goal.returns-then-eq-clause-plan
returns-then-eq-clause-plan c = λ at same content.
    let names = renamed c.args.newdir c.args.name.now c.args.newname.now in
    let view = view_of c.args.mount.now.mount (rename.looks c.args.node names) in
    let from_is : c.in_ok-from.from ≡ rename.from_of names view =
    c.in_ok-from.ensures.ok ∙ ap (λ (part : List ℕ). path_in (sight_at c.args.mount.now.mount.table c.args.node) part) c.strip_suffix-suffix.ensures.bare in
    asks_nothing names view c.in_ok-from.from c.in_ok-to.to from_is c.in_ok-to.ensures.ok at (sym c.if-eq.true ∙ c.eq.ensures)

pub returns-clause-plan : goal.returns-clause-plan
returns-clause-plan c = λ at same content.
    let names = renamed c.args.newdir c.args.name.now c.args.newname.now in
    let view = view_of c.args.mount.now.mount (rename.looks c.args.node names) in
    let from_is : c.in_ok-from.from ≡ rename.from_of names view =
    c.in_ok-from.ensures.ok ∙ ap (λ (part : List ℕ). path_in (sight_at c.args.mount.now.mount.table c.args.node) part) c.strip_suffix-suffix.ensures.bare in
    moves_object names view c.in_ok-from.from c.in_ok-to.to from_is c.in_ok-to.ensures.ok at c.args.config.now.implicit_dirs c.strip_suffix-suffix.result.1 (sym c.if-eq.false ∙ c.eq.ensures)
    (ap (λ (o : Config). o.implicit_dirs) (sym same)) c.strip_suffix-suffix.ensures.suffix
