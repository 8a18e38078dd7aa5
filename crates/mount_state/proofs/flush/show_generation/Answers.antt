-- The file shows the new generation under the name that it had.
use Rattle.std.proofs.Common.{◌≡◌, sym, ap, subst, ◌∙◌}
use Rattle.std.specs.Prelude.{IfSome}
use Rattle.std.specs.FinMap as fin
use Rattle.std.specs.Option.{option_map_or}
use Rattle.mount_rules.specs.Mount.{NodeTable}
use Rattle.mount_rules.specs.Requests.Flush.{made_current_if_live}
use Rattle.mount_rules.specs.Showing.{file_shown}
use Rattle.mount_state.proofs.FlushLaws.{name_stays, shown_file}
use Rattle.mount_state.proofs.flush.show_generation.Goals as goal

pub make_current_if_live-requires-clause-name : goal.make_current_if_live-requires-clause-name
make_current_if_live-requires-clause-name c =
    let file = file_shown c.args.meta c.args.moment in
    subst (λ (t : NodeTable). IfSome (fin.get t.nodes c.args.number) (λ inode. c.args.name ≡ inode.name))
    (sym (c.show_file.ensures.table ∙ shown_file c.args.nodes.now.table c.args.number file c.requires.file))
    (name_stays c.args.nodes.now.table c.args.number file c.args.name c.requires.name)

pub returns-clause-table : goal.returns-clause-table
returns-clause-table c =
    c.make_current_if_live.ensures.table
    ∙ ap (λ (t : NodeTable). option_map_or (λ inode. made_current_if_live t c.args.number inode) (fin.get t.nodes c.args.number) t)
    (c.show_file.ensures.table ∙ shown_file c.args.nodes.now.table c.args.number (file_shown c.args.meta c.args.moment) c.requires.file)
