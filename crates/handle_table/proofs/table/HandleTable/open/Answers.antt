-- A handle more, under the next number.
use Rattle.std.proofs.Common.{◌+◌, cond, nat_eq, sym, ap, ◌∙◌, arith}
use Rattle.std.specs.FinMap as fin
use Rattle.handle_table.specs.Handles.{Handles, count_at, open_on}
use Rattle.handle_table.proofs.HandleLemmas.{HoldsHandles-of, IsHandleTable-opened, counts_up, open_on-insert, fresh}
use Rattle.handle_table.proofs.table.HandleTable.open.Goals as goal

pub count_up-requires-clause-fits : goal.count_up-requires-clause-fits
count_up-requires-clause-fits c =
    omega (arith, c.self.invariant.counts c.handle.inside.node, c.self.invariant.table.bounded c.handle.inside.node, c.requires.next, ap (λ t. t.next) c.self.view_is)

pub invariant_of-self : goal.invariant_of-self
invariant_of-self c =
    let table : Handles = record { handles = c.self.inside.handles.map; next = c.self.inside.next; spare = c.self.inside.room } in
    HoldsHandles-of c.put.new.self c.count_up.new.held _ _ (fin.insert c.self.inside.handles.map c.self.inside.next c.args.handle)
    c.put.ensures.map (IsHandleTable-opened table c.args.handle c.self.invariant.table)
    (λ q. c.count_up.ensures.counts q
    ∙ counts_up (count_at c.self.inside.held.map) (open_on c.self.inside.handles.map) q c.handle.inside.node c.self.invariant.counts
    ∙ ap (λ h. cond (nat_eq h.node q) 1 0 + open_on c.self.inside.handles.map q) c.handle.view_is
    ∙ sym (open_on-insert c.self.inside.handles.map c.self.inside.next c.args.handle q (fresh table c.self.invariant.table)))
    (omega (arith, c.put.ensures.spare, c.self.invariant.handle_room)) (omega (arith, c.count_up.ensures.spare, c.self.invariant.held_room))
