-- That own writes leave no record standing is a lemma.
use Rattle.history_laws.proofs.RecordLaws.{records_show_now}
use Rattle.history_laws.proofs.laws.record_laws.Goals as goal

pub returns : goal.returns
returns c = record { shows = records_show_now }
