-- A new table's law along any calls.
use Rattle.record_spec.proofs.UseLaws.{uses_are_lawful}
use Rattle.stat_records.proofs.stat_records.StatRecords.new.Goals as goal

pub returns-clause-lawful : goal.returns-clause-lawful
returns-clause-lawful c = uses_are_lawful
