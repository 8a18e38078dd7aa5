-- Each law of calls that stand apart is a lemma.
use Rattle.history_laws.proofs.ApartLaws.{ends_see_as_taken}
use Rattle.history_laws.proofs.OneByOneLaws.{one_by_one_is_apart}
use Rattle.history_laws.proofs.laws.apart_laws.Goals as goal

pub returns-clause-sees : goal.returns-clause-sees
returns-clause-sees c = ends_see_as_taken

pub returns-clause-one : goal.returns-clause-one
returns-clause-one c = one_by_one_is_apart
