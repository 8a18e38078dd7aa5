-- The laws of runs.
use Rattle.mount_laws.proofs.Contents.{files_keep_content}
use Rattle.mount_laws.proofs.Guarded.{flushes_are_guarded}
use Rattle.mount_laws.proofs.Lengths.{files_are_short}
use Rattle.mount_laws.proofs.Pages.{pages_are_full}
use Rattle.mount_laws.proofs.Readings.{reads_are_of_content}
use Rattle.mount_laws.proofs.Removals.{rmdirs_empty}
use Rattle.mount_laws.proofs.Renamed.{renames_move, renames_stop}
use Rattle.mount_laws.proofs.RunLaws.{counts_decide, numbers_rise, short_are_out_of_memory}
use Rattle.mount_laws.proofs.Settled.{staged_stay_over, staging_is_bounded}
use Rattle.mount_laws.proofs.Writings.{writes_patch}
use Rattle.mount_laws.proofs.laws.run_laws.Goals as goal

pub returns-clause-counts : goal.returns-clause-counts
returns-clause-counts c = counts_decide

pub returns-clause-numbers : goal.returns-clause-numbers
returns-clause-numbers c = numbers_rise

pub returns-clause-short : goal.returns-clause-short
returns-clause-short c = short_are_out_of_memory

pub returns-clause-content : goal.returns-clause-content
returns-clause-content c = files_keep_content

pub returns-clause-limits : goal.returns-clause-limits
returns-clause-limits c = files_are_short

pub returns-clause-staged : goal.returns-clause-staged
returns-clause-staged c = staged_stay_over

pub returns-clause-reads : goal.returns-clause-reads
returns-clause-reads c = reads_are_of_content

pub returns-clause-writes : goal.returns-clause-writes
returns-clause-writes c = writes_patch

pub returns-clause-bounded : goal.returns-clause-bounded
returns-clause-bounded c = staging_is_bounded

pub returns-clause-flushes : goal.returns-clause-flushes
returns-clause-flushes c = flushes_are_guarded

pub returns-clause-renames : goal.returns-clause-renames
returns-clause-renames c = renames_move

pub returns-clause-stops : goal.returns-clause-stops
returns-clause-stops c = renames_stop

pub returns-clause-removals : goal.returns-clause-removals
returns-clause-removals c = rmdirs_empty

pub returns-clause-pages : goal.returns-clause-pages
returns-clause-pages c = pages_are_full
