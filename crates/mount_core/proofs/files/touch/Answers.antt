-- A time is set of a file, and is one.
use Rattle.std.proofs.Common.{◌≡◌, rules, Option, Some, None, IsSome, subst, sym, ap, ◌∙◌, option_map}
use Rattle.std.specs.FinMap as fin
use Rattle.bucket_api.specs.Names.{IsObjectName}
use Rattle.mount_core.proofs.FileLemmas.{file_kind, kept_file, named_file}
use Rattle.mount_core.proofs.SetTimes.{AreTime, touches_file}
use Rattle.mount_rules.specs.Mount.{File, Node}
use Rattle.mount_rules.specs.Rules.{at_file}
use Rattle.mount_rules.specs.View.{sight_of, view_of}
use Rattle.plan_files.specs.Settings.{asked_of}
use Rattle.mount_core.proofs.files.touch.Goals as goal

none_some : IsSome {T = File} None → ⊥
none_some some = absurd cc

pub unreachable-requires : goal.unreachable-requires
unreachable-requires c =
    let mount = c.args.mount.now.mount in
    let node : Node = c.in-Some.inode.now in
    let there : fin.get mount.table.nodes c.args.node ≡ Some node = search rules in
    let seen = ap (option_map (sight_of c.args.node)) there in
    let is = touches_file (asked_of c.args.asked.now) (view_of mount (at_file c.args.node)) c.requires.free c.args.second c.requires.second (sight_of c.args.node node) seen c.requires.change in
    let none : node.file ≡ None = sym (ap (λ (n : Node). n.file) c.inode.view_is) ∙ c.in_default-file.is in
    let some : IsSome node.file = kept_file mount c.args.node node there (file_kind node.kind is.0) c.nodes.ensures.valid in
    none_some (subst (λ (f : Option File). IsSome f) none some)

pub returns-clause-errand : goal.returns-clause-errand
returns-clause-errand c =
    let mount = c.args.mount.now.mount in
    let node : Node = c.in-Some.inode.now in
    let there : fin.get mount.table.nodes c.args.node ≡ Some node = search rules in
    let named : node.name ≡ c.in_ok-copy.field-0 = search rules in
    let seen = ap (option_map (sight_of c.args.node)) there in
    let is = touches_file (asked_of c.args.asked.now) (view_of mount (at_file c.args.node)) c.requires.free c.args.second c.requires.second (sight_of c.args.node node) seen c.requires.change in (
      (
        subst IsObjectName named (named_file mount c.args.node node there c.in-Some-file.file (sym (ap (λ (n : Node). n.file) c.inode.view_is) ∙ c.in-Some-file.is) c.nodes.ensures.valid),
        subst AreTime (sym c.time_set-seconds.ensures) is.1,
      ),
      tt,
    )
