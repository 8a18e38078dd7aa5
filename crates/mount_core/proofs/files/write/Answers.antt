-- A file has the name of an object.
use Rattle.std.proofs.Common.{◌≡◌, rules, Some, subst, sym, ap, ◌∙◌}
use Rattle.std.specs.FinMap as fin
use Rattle.bucket_api.specs.Names.{IsObjectName}
use Rattle.mount_core.proofs.FileLemmas.{named_file}
use Rattle.mount_rules.specs.Mount.{Node}
use Rattle.mount_core.proofs.files.write.Goals as goal

pub returns-clause-errand : goal.returns-clause-errand
returns-clause-errand c =
    let mount = c.args.mount.now.mount in
    let node : Node = c.in-Some.inode.now in
    let there : fin.get mount.table.nodes c.args.node ≡ Some node = search rules in
    let named : node.name ≡ c.in_ok-copy.field-0 = search rules in
    (subst IsObjectName named (named_file mount c.args.node node there c.in-Some-file.file (sym (ap (λ (n : Node). n.file) c.inode.view_is) ∙ c.in-Some-file.is) c.nodes.ensures.valid), tt)
