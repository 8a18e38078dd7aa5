-- One prefix more.
use Rattle.dir_listing.proofs.KeptLemmas.{implied_more}
use Rattle.dir_listing.proofs.entries.put_dirs.Goals as goal

pub loop-prefix-preserved : goal.loop-prefix-preserved
loop-prefix-preserved c = implied_more c.loop-prefix.yielded c.in-Some.prefix c.args.entries.now c.loop-prefix.entries c.put_dir.new.entries c.loop-prefix.invariant c.in_ok-put_dir.ensures.ok
