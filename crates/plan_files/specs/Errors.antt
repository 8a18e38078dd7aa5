-- The error that an errand on a file ends in, 0 where it ends well.
use Rattle.std.specs.Prelude.{ℕ, List}
use Rattle.bucket_api.specs.declared.answers.Answer.{Answer}
use Rattle.fuse_replies.specs.Errno.{eio, estale}
use Rattle.mount_rules.specs.Reading.{Reads, given, gone, failed, reads}
use Rattle.mount_rules.specs.Requests.Flush as flush
use Rattle.mount_rules.specs.Requests.Setattr as setattr
use Rattle.mount_rules.specs.Standing as standing
use Rattle.mount_rules.specs.Standing.{Standing}
use Rattle.plan_files.specs.declared.errand.FileErrand.{FileErrand}
use Rattle.plan_files.specs.declared.errand.FileErrand.TheVariants.{Attr, Source, Flush, Touch}

abbrev pub errno_of_standing : Standing → ℕ
errno_of_standing standing.fault = eio
errno_of_standing found = 0

abbrev pub errno_of_reads : Reads → ℕ
errno_of_reads given = 0
errno_of_reads gone = estale
errno_of_reads failed = eio

abbrev pub errno_of_came : flush.Came → ℕ
errno_of_came (flush.made meta) = 0
errno_of_came flush.stale = estale
errno_of_came flush.fault = eio

abbrev pub errno_of_update : Standing → ℕ
errno_of_update standing.gone = estale
errno_of_update standing.fault = eio
errno_of_update found = 0

abbrev pub errno_of : FileErrand → List Answer → ℕ
errno_of (Attr name) answers = errno_of_standing (standing.standing 0 answers)
errno_of (Source name generation wanted) answers = errno_of_reads (reads answers)
errno_of (Flush name generation wanted pairs) answers = errno_of_came (flush.came_of answers)
errno_of (Touch name generation seconds nanos) answers = errno_of_update (setattr.standing_of answers)
