-- The keys of no pairs rise, and so do those of the time's pair.
use Rattle.std.proofs.Common.{rules, [], subst, sym}
use Rattle.std.specs.List.Sorted.{IsStrictlySortedBy}
use Rattle.bucket_api.specs.Metadata.{KeysRise}
use Rattle.plan_files.proofs.errand.touch.Goals as goal

no_keys : KeysRise []
unfolding IsStrictlySortedBy
no_keys = tt

pub returns-clause-may : goal.returns-clause-may
returns-clause-may c = (search rules, c.in_ok-pairs.ensures.rise (subst KeysRise (sym c.new.ensures.items) no_keys))
