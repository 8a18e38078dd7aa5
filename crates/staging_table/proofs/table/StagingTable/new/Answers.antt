-- Nothing is staged.
use Rattle.std.proofs.Common.{ap}
use Rattle.staging_table.proofs.Empty.{files-empty, empty-holds}
use Rattle.staging_table.proofs.table.StagingTable.new.Goals as goal

pub invariant_of-result : goal.invariant_of-result
invariant_of-result c = empty-holds c.in_ok-pool.pool c.new-2.result c.args.blocks c.in_ok-pool.ensures.ok c.new-2.ensures.map

pub returns : goal.returns
returns c = record {
  ok = λ i. record {
    files = files-empty c.in_ok-pool.pool.chains c.new-2.result.map c.new-2.ensures.map i;
    blocks = ap (λ p. p.blocks) c.in_ok-pool.ensures.ok i;
    spare = 0;
  };
}
