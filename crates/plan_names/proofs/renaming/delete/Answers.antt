-- A path names an object.
use Rattle.std.proofs.Common.{sym, subst}
use Rattle.bucket_api.specs.Names.{IsObjectName}
use Rattle.plan_names.proofs.NameLemmas.{path_named}
use Rattle.plan_names.proofs.renaming.delete.Goals as goal

pub returns-clause-may : goal.returns-clause-may
returns-clause-may c = subst IsObjectName (sym c.in_ok-copy.ensures.ok) (path_named c.args.from.now c.requires)
