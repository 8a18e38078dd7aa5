-- One handle more on a node.
use Rattle.std.proofs.Common.{◌≡◌, ◌+◌, None, Some, cond, nat_eq, sym, ap, ◌∙◌, unwrap_or}
use Rattle.std.specs.FinMap as fin
use Rattle.handle_table.specs.Handles.{count_at}
use Rattle.handle_table.proofs.HandleLemmas.{count_at-insert}
use Rattle.handle_table.proofs.table.count_up.Goals as goal

pub returns-in_default-clause-counts : goal.returns-in_default-clause-counts
returns-in_default-clause-counts c = λ q.
    let none : fin.get c.args.held.now.map c.args.node ≡ None = sym c.get.ensures ∙ sym c.copied.ensures ∙ c.in_default.is in
    ap (λ m. count_at m q) c.put.ensures.map
    ∙ count_at-insert c.args.held.now.map c.args.node 1 q
    ∙ ap (λ n. cond (nat_eq q c.args.node) (n + 1) (count_at c.args.held.now.map q)) (sym (ap (λ o. unwrap_or o 0) none))

pub returns-clause-counts : goal.returns-clause-counts
returns-clause-counts c = λ q.
    let some : fin.get c.args.held.now.map c.args.node ≡ Some c.in-Some.count = sym c.get.ensures ∙ sym c.copied.ensures ∙ c.in-Some.is in
    count_at-insert c.args.held.now.map c.args.node (c.in-Some.count + 1) q
    ∙ ap (λ n. cond (nat_eq q c.args.node) (n + 1) (count_at c.args.held.now.map q)) (sym (ap (λ o. unwrap_or o 0) some))
