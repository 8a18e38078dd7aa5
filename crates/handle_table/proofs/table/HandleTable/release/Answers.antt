-- A handle goes.
use Rattle.std.proofs.Common.{◌+◌, cond, nat_eq, sym, ap, ◌∙◌, arith}
use Rattle.std.specs.FinMap as fin
use Rattle.handle_table.specs.Handles.{Handles, count_at, open_on}
use Rattle.handle_table.proofs.HandleLemmas.{HoldsHandles-of, IsHandleTable-released, counts_down, open_on-remove, remove-absent}
use Rattle.handle_table.proofs.table.HandleTable.release.Goals as goal

pub invariant_of-self : goal.invariant_of-self
invariant_of-self c =
    HoldsHandles-of c.remove.new.self c.self.inside.held c.self.inside.next c.self.inside.room c.self.inside.handles.map
    (c.in_default.ensures.map ∙ remove-absent c.self.inside.handles.map c.args.fh (sym c.in_default.ensures.value))
    c.self.invariant.table c.self.invariant.counts (omega (arith, c.in_default.ensures.spare, c.self.invariant.handle_room)) c.self.invariant.held_room

pub invariant_of-self-2 : goal.invariant_of-self-2
invariant_of-self-2 c =
    let table : Handles = record { handles = c.self.inside.handles.map; next = c.self.inside.next; spare = c.self.inside.room } in
    HoldsHandles-of c.remove.new.self c.count_down.new.held c.self.inside.next c.self.inside.room (fin.remove c.self.inside.handles.map c.args.fh)
    c.in-Some.ensures.map (IsHandleTable-released table c.args.fh c.self.invariant.table)
    (λ q. c.count_down.ensures.counts q
    ∙ counts_down (count_at c.self.inside.held.map) (open_on c.self.inside.handles.map) q c.handle.inside.node (open_on (fin.remove c.self.inside.handles.map c.args.fh) q) c.self.invariant.counts
    (open_on-remove c.self.inside.handles.map c.args.fh c.in-Some.handle q (sym c.in-Some.ensures.value)
    ∙ ap (λ h. cond (nat_eq h.node q) 1 0 + open_on (fin.remove c.self.inside.handles.map c.args.fh) q) (sym c.handle.view_is)))
    (omega (arith, c.in-Some.ensures.spare, c.self.invariant.handle_room)) (omega (arith, c.count_down.ensures.spare, c.self.invariant.held_room))
