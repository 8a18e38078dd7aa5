-- Paths name objects.
use Rattle.std.proofs.Common.{sym, subst}
use Rattle.bucket_api.specs.Names.{IsObjectName}
use Rattle.plan_names.proofs.NameLemmas.{path_named}
use Rattle.plan_names.proofs.renaming.copy.Goals as goal

pub returns-clause-may : goal.returns-clause-may
returns-clause-may c = (
  subst IsObjectName (sym c.in_ok-copy.ensures.ok) (path_named c.args.from.now c.requires.from),
  subst IsObjectName (sym c.in_ok-copy-2.ensures.ok) (path_named c.args.to.now c.requires.to),
)
