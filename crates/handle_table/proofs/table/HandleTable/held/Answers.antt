-- A node is held that has a count.
use Rattle.std.proofs.Common.{ap, ◌∙◌, unwrap_or}
use Rattle.handle_table.specs.Handles.{open_on}
use Rattle.handle_table.proofs.HandleLemmas.{held_answer}
use Rattle.handle_table.proofs.table.HandleTable.held.Goals as goal

pub returns-in_default : goal.returns-in_default
returns-in_default c = record {
  ok =
      held_answer c.args.self.now.handles c.args.node 0
      (ap (λ o. unwrap_or o 0) c.in_default.ensures ∙ c.self.invariant.counts c.args.node ∙ ap (λ t. open_on t.handles c.args.node) c.self.view_is);
}

pub returns : goal.returns
returns c = record {
  ok =
      held_answer c.args.self.now.handles c.args.node c.in-Some.count.now
      (ap (λ o. unwrap_or o 0) c.in-Some.ensures ∙ c.self.invariant.counts c.args.node ∙ ap (λ t. open_on t.handles c.args.node) c.self.view_is);
}
