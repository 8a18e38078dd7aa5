-- More room for the same files.
use Rattle.staging_table.proofs.Changed.{holds-of}
use Rattle.staging_table.proofs.table.StagingTable.reserve.Goals as goal

pub invariant_of-self-then-more-self : goal.invariant_of-self-then-more-self
invariant_of-self-then-more-self c =
    holds-of _ _ _ c.self.invariant c.reserve.new.self c.reserve.ensures.kept c.args.more c.in_ok-reserve.ensures.ok
