-- What is changed of the node that is there.
use Rattle.std.proofs.Common.{Option, sym, ap, ◌∙◌}
use Rattle.std.specs.Prelude.{is_some, option_map}
use Rattle.std.specs.FinMap as fin
use Rattle.std.specs.Option.{option_map_or}
use Rattle.mount_rules.specs.Mount.{Node}
use Rattle.mount_rules.specs.Requests.Setattr as setattr
use Rattle.mount_rules.specs.View.{sight_of}
use Rattle.plan_files.specs.Settings.{asked_of}
use Rattle.mount_state.proofs.StagedLaws.{is_staged}
use Rattle.mount_state.proofs.tables.Tables.change.Goals as goal

pub returns : goal.returns
returns c =
    let found = fin.get c.args.self.now.staging.files c.args.node in
    c.change_of.ensures found (sight_of c.args.node c.in-Some.inode.now)
    (sym (ap (λ (n : Node). n.kind) c.inode.view_is))
    (sym c.content_len-len.ensures)
    (is_staged found ∙ sym (ap is_some c.len.ensures.ok) ∙ sym c.is_some-staged.ensures)
    ∙ ap (λ (o : Option Node). option_map_or (setattr.change_of (asked_of c.args.asked.now) found) (option_map (sight_of c.args.node) o) setattr.look) c.in-Some.ensures.ok
