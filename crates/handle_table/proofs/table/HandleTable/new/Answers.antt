-- No handle is open.
use Rattle.handle_table.proofs.HandleLemmas.{HoldsHandles-new}
use Rattle.handle_table.proofs.table.HandleTable.new.Goals as goal

pub invariant_of-result : goal.invariant_of-result
invariant_of-result c = HoldsHandles-new c.new.result c.new-2.result c.new.ensures.map c.new-2.ensures.map
