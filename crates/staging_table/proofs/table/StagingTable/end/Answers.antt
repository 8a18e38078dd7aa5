-- What is staged is let go.
use Rattle.std.proofs.Common.{◌≤◌, sym, ap, subst, ◌∙◌}
use Rattle.std.specs.FinMap as fin
use Rattle.staging_table.proofs.Changed.{ended-files, ended-holds, none-files, none-holds}
use Rattle.staging_table.proofs.table.StagingTable.end.Goals as goal

pub invariant_of-self : goal.invariant_of-self
invariant_of-self c =
    none-holds _ _ _ c.self.invariant c.args.node (sym c.in_default.ensures.value) c.remove.new.self c.remove.ensures.map
    c.self.inside.room (subst (λ n. c.self.inside.room ≤ n) (sym c.remove.ensures.spare) c.self.invariant.room)

pub returns-in_default : goal.returns-in_default
returns-in_default c = record {
  ok = λ i. record {
    files = (none-files _ _ _ c.self.invariant c.args.node (sym c.in_default.ensures.value) c.remove.new.self c.remove.ensures.map ∙ ap (λ t. fin.remove t.files c.args.node) c.self.view_is) i;
    blocks = (ap (λ t. t.blocks) c.self.view_is) i;
    spare = ap (λ t. t.spare) c.self.view_is i;
  };
}

pub spend-requires : goal.spend-requires
spend-requires c = c.self.invariant.staged c.args.node c.in-Some.held (sym c.in-Some.ensures.value)

pub invariant_of-self-2 : goal.invariant_of-self-2
invariant_of-self-2 c =
    ended-holds _ _ _ c.self.invariant c.args.node c.in-Some.held (sym c.in-Some.ensures.value)
    c.spend.new.pool c.spend.ensures.ok c.spend.ensures.kept c.free.ensures.valid c.remove.new.self c.remove.ensures.map
    c.self.inside.room (subst (λ n. c.self.inside.room ≤ n) (sym c.remove.ensures.spare) c.self.invariant.room)

pub returns : goal.returns
returns c = record {
  ok = λ i. record {
    files = (ended-files _ _ _ c.self.invariant c.args.node c.in-Some.held (sym c.in-Some.ensures.value)
        c.spend.new.pool c.spend.ensures.ok c.spend.ensures.kept c.free.ensures.valid c.remove.new.self c.remove.ensures.map
        ∙ ap (λ t. fin.remove t.files c.args.node) c.self.view_is) i;
    blocks = (ap (λ p. p.blocks) c.spend.ensures.ok ∙ ap (λ t. t.blocks) c.self.view_is) i;
    spare = ap (λ t. t.spare) c.self.view_is i;
  };
}
