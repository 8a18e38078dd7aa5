-- The laws of accounts and journals.
use Rattle.history_spec.proofs.Calling.{call_is_added, contents_stay}
use Rattle.history_spec.proofs.JournalLaws.{account_is_cut, entry_is_added, journal_is_cut, journal_stays, log_grows}
use Rattle.history_spec.proofs.OneAccount.{accounts_are_one}
use Rattle.history_spec.proofs.laws.history_laws.Goals as goal

pub returns-clause-added : goal.returns-clause-added
returns-clause-added c = entry_is_added

pub returns-clause-grows : goal.returns-clause-grows
returns-clause-grows c = log_grows

pub returns-clause-stays : goal.returns-clause-stays
returns-clause-stays c = journal_stays

pub returns-clause-cut : goal.returns-clause-cut
returns-clause-cut c = account_is_cut

pub returns-clause-begun : goal.returns-clause-begun
returns-clause-begun c = journal_is_cut

pub returns-clause-one : goal.returns-clause-one
returns-clause-one c = accounts_are_one

pub returns-clause-called : goal.returns-clause-called
returns-clause-called c = call_is_added

pub returns-clause-contents : goal.returns-clause-contents
returns-clause-contents c = contents_stay
