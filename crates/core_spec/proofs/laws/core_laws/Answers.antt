-- The laws of a mount that many calls share.
use Rattle.core_spec.proofs.AtOnce.{both_go_on}
use Rattle.core_spec.proofs.Explaining.{log_explains, looks_stay}
use Rattle.core_spec.proofs.First.{first_is_told}
use Rattle.core_spec.proofs.Meeting.{ends_go_on, looks_go_on}
use Rattle.core_spec.proofs.Taking.{takes_go_on}
use Rattle.core_spec.proofs.Ticking.{ticks_go_on}
use Rattle.core_spec.proofs.laws.core_laws.Goals as goal

pub returns-clause-explains : goal.returns-clause-explains
returns-clause-explains g c = log_explains g.B.Bucket.Identity

pub returns-clause-first : goal.returns-clause-first
returns-clause-first g c = first_is_told g.B.Bucket.Identity

pub returns-clause-looks : goal.returns-clause-looks
returns-clause-looks g c = looks_stay g.B.Bucket.Identity

pub returns-clause-looked : goal.returns-clause-looked
returns-clause-looked g c = looks_go_on g.B.Bucket.Identity

pub returns-clause-takes : goal.returns-clause-takes
returns-clause-takes g c = takes_go_on g.B.Bucket.Identity

pub returns-clause-both : goal.returns-clause-both
returns-clause-both g c = both_go_on g.B.Bucket.Identity

pub returns-clause-ends : goal.returns-clause-ends
returns-clause-ends g c = ends_go_on g.B.Bucket.Identity

pub returns-clause-ticks : goal.returns-clause-ticks
returns-clause-ticks g c = ticks_go_on g.B.Bucket.Identity
