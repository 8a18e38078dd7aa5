-- A path is the name of an object.
use Rattle.mount_core.proofs.making.make.Goals as goal
use Rattle.plan_names.proofs.NameLemmas.{path_named}

pub returns-clause-errand : goal.returns-clause-errand
returns-clause-errand c = (path_named c.in_ok-name.name c.in_ok-name.ensures.path, c.requires.ordered)
