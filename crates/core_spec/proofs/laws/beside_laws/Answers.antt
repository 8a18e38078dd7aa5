-- The law of calls beside one another.
use Rattle.core_spec.proofs.Beside.{are_unseen}
use Rattle.core_spec.proofs.laws.beside_laws.Goals as goal

pub returns : goal.returns
returns c = are_unseen
