use Rattle.claims.proofs.TableLaws.{IsTallied-empty}
use Rattle.claims.proofs.table.Claims.new.Goals as goal

pub invariant_of-result : goal.invariant_of-result
invariant_of-result c = IsTallied-empty c.new.result.map c.new-2.result.nodes.map c.new-2.result.names.map c.new.ensures.map c.new-2.ensures.nodes c.new-2.ensures.names
