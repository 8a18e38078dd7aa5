-- One handle less on a node.
use Rattle.std.proofs.Common.{◌≡◌, ◌-◌, Some, cond, nat_eq, sym, ap, ◌∙◌, unwrap_or, arith}
use Rattle.std.specs.FinMap as fin
use Rattle.handle_table.specs.Handles.{count_at}
use Rattle.handle_table.proofs.HandleLemmas.{count_at-insert, count_at-remove}
use Rattle.handle_table.proofs.table.count_down.Goals as goal

pub returns-then-count-le1-clause-counts : goal.returns-then-count-le1-clause-counts
returns-then-count-le1-clause-counts c = λ q.
    let some : fin.get c.args.held.now.map c.args.node ≡ Some c.in-Some.count = sym c.get.ensures ∙ sym c.copied.ensures ∙ c.in-Some.is in
    let count : count_at c.args.held.now.map c.args.node ≡ c.in-Some.count = ap (λ o. unwrap_or o 0) some in
    let last : 0 ≡ count_at c.args.held.now.map c.args.node - 1 = omega arith in
    ap (λ m. count_at m q) c.remove.ensures.map
    ∙ count_at-remove c.args.held.now.map c.args.node q
    ∙ ap (λ n. cond (nat_eq q c.args.node) n (count_at c.args.held.now.map q)) last

pub returns-clause-counts : goal.returns-clause-counts
returns-clause-counts c = λ q.
    let some : fin.get c.args.held.now.map c.args.node ≡ Some c.in-Some.count = sym c.get.ensures ∙ sym c.copied.ensures ∙ c.in-Some.is in
    count_at-insert c.args.held.now.map c.args.node (c.in-Some.count - 1) q
    ∙ ap (λ n. cond (nat_eq q c.args.node) (n - 1) (count_at c.args.held.now.map q)) (sym (ap (λ o. unwrap_or o 0) some))
