-- The time of what is held.
use Rattle.std.proofs.Common.{None, Some}
use Rattle.staging_table.proofs.Served.{seen, is_table}
use Rattle.staging_table.proofs.table.StagingTable.mtime.Goals as goal

pub returns-in_default-clause-ok : goal.returns-in_default-clause-ok
returns-in_default-clause-ok c = seen _ _ _ _ c.self.invariant c.self.view_is c.args.node (λ staged. (staged.seconds, staged.nanos)) None c.in_default.ensures

pub returns-in_default-clause-valid : goal.returns-in_default-clause-valid
returns-in_default-clause-valid c = is_table _ _ _ _ c.self.invariant c.self.view_is

pub returns-clause-ok : goal.returns-clause-ok
returns-clause-ok c = seen _ _ _ _ c.self.invariant c.self.view_is c.args.node (λ staged. (staged.seconds, staged.nanos)) (Some c.in-Some.held.now) c.in-Some.ensures

pub returns-clause-valid : goal.returns-clause-valid
returns-clause-valid c = is_table _ _ _ _ c.self.invariant c.self.view_is
