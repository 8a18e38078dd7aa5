-- The laws of the walk of a call under way.
use Rattle.history_spec.proofs.WalkLaws.{walk_begins, walk_goes_on, walk_stays}
use Rattle.history_spec.proofs.laws.walk_laws.Goals as goal

pub returns-clause-begins : goal.returns-clause-begins
returns-clause-begins c = walk_begins

pub returns-clause-goes_on : goal.returns-clause-goes_on
returns-clause-goes_on c = walk_goes_on

pub returns-clause-stays : goal.returns-clause-stays
returns-clause-stays c = walk_stays
