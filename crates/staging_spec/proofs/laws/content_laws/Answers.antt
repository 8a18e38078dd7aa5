-- The laws are those that were proved over all contents.
use Rattle.staging_spec.proofs.BlockLaws.{touched_few}
use Rattle.staging_spec.proofs.CountLaws.{write_counts, resize_counts}
use Rattle.staging_spec.proofs.ContentLaws.{shrink_then_grow, patch_then_patch}
use Rattle.staging_spec.proofs.laws.content_laws.Goals as goal

pub returns-clause-gone : goal.returns-clause-gone
returns-clause-gone c = shrink_then_grow

pub returns-clause-joins : goal.returns-clause-joins
returns-clause-joins c = patch_then_patch

pub returns-clause-few : goal.returns-clause-few
returns-clause-few c = touched_few

pub returns-clause-counts : goal.returns-clause-counts
returns-clause-counts c = write_counts

pub returns-clause-fewer : goal.returns-clause-fewer
returns-clause-fewer c = resize_counts
