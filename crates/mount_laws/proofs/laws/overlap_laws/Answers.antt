-- The law of claims along all turns.
use Rattle.mount_laws.proofs.Overlaps.{open_calls_see}
use Rattle.mount_laws.proofs.laws.overlap_laws.Goals as goal

pub returns : goal.returns
returns c = open_calls_see
