-- The law of claims along an account.
use Rattle.history_spec.proofs.Claiming.{accounts_happen, plans_stay}
use Rattle.history_spec.proofs.laws.claim_laws.Goals as goal

pub returns-clause-happen : goal.returns-clause-happen
returns-clause-happen c = accounts_happen

pub returns-clause-plans : goal.returns-clause-plans
returns-clause-plans c = plans_stay
