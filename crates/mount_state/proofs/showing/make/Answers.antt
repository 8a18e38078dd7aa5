-- The new node is there, and is told of.
use Rattle.std.proofs.Common.{Some, None, refl, ap, ◌∙◌}
use Rattle.inode_spec.specs.Inodes.{granted}
use Rattle.mount_rules.specs.Showing.{new_node}
use Rattle.mount_state.proofs.ShowingLaws.{entry_granted, granted_there, is_there}
use Rattle.mount_state.proofs.showing.make.Goals as goal

pub entry_at-requires : goal.entry_at-requires
entry_at-requires c =
    is_there c.grant-number.new.self.table c.grant-number.result _
    (granted_there c.args.nodes.now.table c.grant-number.new.self.table c.grant-number.result _ c.grant-number.ensures.number c.grant-number.ensures.table)

pub returns-clause-entry : goal.returns-clause-entry
returns-clause-entry c =
    entry_granted c.args.config.now c.args.nodes.now.table c.grant-number.new.self.table c.grant-number.result (new_node c.args.name c.args.meta c.args.moment) c.entry_at.result
    c.grant-number.ensures.number
    (c.grant-number.ensures.table ∙ ap (granted c.args.nodes.now.table) (λ i. record { kind = c.node_kind-kind.ensures i; name = c.args.name; lookups = 1; file = Some (c.shown-file.ensures i) }))
    (c.entry_at.ensures None refl)
