-- What came of a stat, of an update, of reads and of a flush, as the code says it.
use Rattle.mount_rules.specs.Reading as reading
use Rattle.mount_rules.specs.Requests.Flush as flush
use Rattle.mount_rules.specs.Standing as standing
use Rattle.plan_files.specs.declared.outcomes.Came.{Came}
use Rattle.plan_files.specs.declared.outcomes.Came.TheVariants as came
use Rattle.plan_files.specs.declared.outcomes.Reads.{Reads}
use Rattle.plan_files.specs.declared.outcomes.Reads.TheVariants as reads
use Rattle.plan_files.specs.declared.outcomes.Standing.{Standing}
use Rattle.plan_files.specs.declared.outcomes.Standing.TheVariants as stands

abbrev pub as_standing : Standing → standing.Standing
as_standing stands.Unasked = standing.unasked
as_standing (stands.Live meta) = standing.live meta
as_standing stands.Gone = standing.gone
as_standing stands.Fault = standing.fault

abbrev pub as_reads : Reads → reading.Reads
as_reads reads.Given = reading.given
as_reads reads.Gone = reading.gone
as_reads reads.Failed = reading.failed

abbrev pub as_came : Came → flush.Came
as_came (came.Made meta) = flush.made meta
as_came came.Stale = flush.stale
as_came came.Fault = flush.fault
