-- The placeholder of a path's directory names an object.
use Rattle.std.proofs.Common.{sym, ap, subst, ◌∙◌}
use Rattle.bucket_api.specs.Names.{IsObjectName}
use Rattle.object_names.specs.Paths.{dir_prefix_of}
use Rattle.plan_names.proofs.NameLemmas.{directory_named}
use Rattle.plan_names.proofs.removing.delete.Goals as goal

pub returns-clause-may : goal.returns-clause-may
returns-clause-may c = subst IsObjectName (sym (c.in_ok-dir_prefix.ensures.ok ∙ ap dir_prefix_of c.as_str.ensures.bytes)) (directory_named c.args.path.now c.requires)
