-- The length of what is held.
use Rattle.std.proofs.Common.{None, Some, ap, ◌∙◌}
use Rattle.staging_table.proofs.Served.{seen, is_table}
use Rattle.staging_table.proofs.table.StagingTable.len.Goals as goal

pub returns-in_default-clause-ok : goal.returns-in_default-clause-ok
returns-in_default-clause-ok c = seen _ _ _ _ c.self.invariant c.self.view_is c.args.node (λ staged. staged.overlay.size) None c.in_default.ensures

pub returns-in_default-clause-valid : goal.returns-in_default-clause-valid
returns-in_default-clause-valid c = is_table _ _ _ _ c.self.invariant c.self.view_is

pub returns-clause-ok : goal.returns-clause-ok
returns-clause-ok c = ap Some c.len.ensures ∙ seen _ _ _ _ c.self.invariant c.self.view_is c.args.node (λ staged. staged.overlay.size) (Some c.in-Some.held.now) c.in-Some.ensures

pub returns-clause-valid : goal.returns-clause-valid
returns-clause-valid c = is_table _ _ _ _ c.self.invariant c.self.view_is
