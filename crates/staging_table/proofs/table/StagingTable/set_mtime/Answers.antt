-- A file has another time.
use Rattle.std.specs.FinMap as fin
use Rattle.staging_table.proofs.Changed.{absent}
use Rattle.staging_table.proofs.Timed.{none-timed, timed-holds, timed-shows}
use Rattle.staging_table.proofs.table.StagingTable.set_mtime.Goals as goal

pub returns-then-is_none : goal.returns-then-is_none
returns-then-is_none c = record {
  ok = none-timed _ _ _ _ c.self.invariant c.self.view_is c.args.node c.args.seconds c.args.nanos
      (absent c.get.result (fin.get c.self.inside.held.map c.args.node) c.get.ensures c.if-is_none.ensures);
}

pub invariant_of-self : goal.invariant_of-self
invariant_of-self c =
    timed-holds _ _ _ _ c.self.invariant c.self.view_is c.args.node c.args.seconds c.args.nanos c.value_mut-held.result.now c.value_mut-held.ensures.value

pub returns : goal.returns
returns c = record {
  ok = timed-shows _ _ _ _ c.self.invariant c.self.view_is c.args.node c.args.seconds c.args.nanos c.value_mut-held.result.now c.value_mut-held.ensures.value;
}
