-- One file more.
use Rattle.dir_listing.proofs.FileLemmas.{files_more}
use Rattle.dir_listing.proofs.entries.put_files.Goals as goal

pub loop-file-preserved : goal.loop-file-preserved
loop-file-preserved c = files_more c.loop-file.yielded c.in-Some.file c.args.entries.now c.loop-file.entries c.put_file.new.entries c.loop-file.invariant c.in_ok-put_file.ensures.ok
