-- Each promise along accounts is a lemma.
use Rattle.history_laws.proofs.AgreementLaws.{one_thread_agrees}
use Rattle.history_laws.proofs.FlushLaws.{flushes_are_guarded}
use Rattle.history_laws.proofs.NodeLaws.{counts_decide}
use Rattle.history_laws.proofs.OpenLaws.{opens_are_fresh}
use Rattle.history_laws.proofs.ReadLaws.{reads_are_of_content}
use Rattle.history_laws.proofs.laws.account_laws.Goals as goal

pub returns-clause-nodes : goal.returns-clause-nodes
returns-clause-nodes c = counts_decide

pub returns-clause-reads : goal.returns-clause-reads
returns-clause-reads c = reads_are_of_content

pub returns-clause-opens : goal.returns-clause-opens
returns-clause-opens c = opens_are_fresh

pub returns-clause-flushes : goal.returns-clause-flushes
returns-clause-flushes c = flushes_are_guarded

pub returns-clause-agrees : goal.returns-clause-agrees
returns-clause-agrees c = one_thread_agrees
