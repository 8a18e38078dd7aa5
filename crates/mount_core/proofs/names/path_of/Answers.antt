-- A part of a live directory has a path.
use Rattle.std.proofs.Common.{◌≡◌, rules, subst, sym}
use Rattle.mount_laws.proofs.Children.{HasPath-none}
use Rattle.mount_rules.specs.Guards.{path_in}
use Rattle.mount_rules.specs.View.{sight_at}
use Rattle.object_names.specs.Paths.{IsPath}
use Rattle.mount_core.proofs.names.path_of.Goals as goal

pub returns-clause-path : goal.returns-clause-path
returns-clause-path c =
    let has = HasPath-none c.args.mount.now.mount c.args.node c.args.part.now c.nodes.ensures.valid c.requires in
    let same : c.from_string.result ≡ path_in (sight_at c.args.mount.now.mount.table c.args.node) c.args.part.now = search rules in
    subst IsPath (sym same) has.is_path
