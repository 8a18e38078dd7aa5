-- The laws are those that were proved over all files.
use Rattle.staging_spec.proofs.FileLaws.{puts_count, ends_count}
use Rattle.staging_spec.proofs.laws.file_laws.Goals as goal

pub returns-clause-puts : goal.returns-clause-puts
returns-clause-puts c = puts_count

pub returns-clause-ends : goal.returns-clause-ends
returns-clause-ends c = ends_count
