-- The name is judged in a directory that is there and live.
use Rattle.std.proofs.Common.{sym, ap, ◌∙◌}
use Rattle.mount_rules.specs.Guards.{part_refusal}
use Rattle.mount_rules.specs.Mount.{Node}
use Rattle.mount_rules.specs.View.{sight_of}
use Rattle.mount_state.proofs.RefusalLaws.{in_live_directory}
use Rattle.mount_state.proofs.tables.Tables.child_refusal.Goals as goal

pub returns-in-None : goal.returns-in-None
returns-in-None c =
    c.part_refusal.ensures (sight_of c.args.node c.in-Some.inode.now) (sym (c.as_str.ensures.bytes ∙ ap (λ (n : Node). n.name) c.inode.view_is))
    ∙ sym (in_live_directory c.args.self.now.nodes.table c.args.node c.in-Some.inode.now (part_refusal c.args.part.now) (sym c.in-Some.ensures.ok) c.in-None.ensures)
