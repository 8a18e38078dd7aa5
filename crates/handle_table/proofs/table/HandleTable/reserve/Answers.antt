-- Both maps have the new room.
use Rattle.std.proofs.Common.{ap, ◌∙◌}
use Rattle.handle_table.specs.Handles.{Handles, count_at}
use Rattle.handle_table.proofs.HandleLemmas.{HoldsHandles-of, IsHandleTable-spare}
use Rattle.handle_table.proofs.table.HandleTable.reserve.Goals as goal

pub invariant_of-self-then-more-self : goal.invariant_of-self-then-more-self
invariant_of-self-then-more-self c =
    let table : Handles = record { handles = c.self.inside.handles.map; next = c.self.inside.next; spare = c.self.inside.room } in
    HoldsHandles-of c.reserve.new.self c.reserve-then-more-self.new.self c.self.inside.next c.args.more c.self.inside.handles.map
    c.in_ok-reserve.ensures.kept (IsHandleTable-spare table c.args.more c.self.invariant.table)
    (λ node. ap (λ m. count_at m node) c.in_ok-reserve-2.ensures.kept ∙ c.self.invariant.counts node)
    c.in_ok-reserve.ensures.ok c.in_ok-reserve-2.ensures.ok
