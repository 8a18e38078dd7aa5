-- The directory's node, new or shown again, is there and is told of.
use Rattle.std.proofs.Common.{None, refl, sym, ap, ◌∙◌}
use Rattle.mount_rules.specs.Attributes.{entry_of}
use Rattle.mount_rules.specs.Showing.{Numbered, directory_again, new_directory, shown_or_new}
use Rattle.mount_state.proofs.ShowingLaws.{IsShownAgain-number, directory_shown, entry_granted, entry_told, granted_there, is_there, shown_by_none}
use Rattle.mount_state.proofs.showing.show_directory.Goals as goal

pub entry_at-requires : goal.entry_at-requires
entry_at-requires c =
    is_there c.grant-number.new.self.table c.grant-number.result _
    (granted_there c.args.nodes.now.table c.grant-number.new.self.table c.grant-number.result (new_directory c.args.name) c.grant-number.ensures.number c.grant-number.ensures.table)

pub returns-in_default-clause-entry : goal.returns-in_default-clause-entry
returns-in_default-clause-entry c =
    entry_granted c.args.config.now c.args.nodes.now.table c.grant-number.new.self.table c.grant-number.result (new_directory c.args.name) c.entry_at.result
    c.grant-number.ensures.number c.grant-number.ensures.table (c.entry_at.ensures None refl)
    ∙ ap (λ (n : Numbered). entry_of c.args.config.now n.number n.node None)
    (sym (ap (λ o. shown_or_new c.args.nodes.now.table o (new_directory c.args.name)) (shown_by_none directory_again c.args.nodes.now.table c.args.name (sym c.current_there.ensures ∙ c.in_default.is))))

pub entry_at-requires-2 : goal.entry_at-requires-2
entry_at-requires-2 c =
    let again = IsShownAgain-number directory_again c.args.nodes.now.table c.args.name c.in-Some.number (sym c.in-Some.ensures) in
    is_there c.look.new.self.table c.in-Some.number again.shown
    (directory_shown c.args.nodes.now.table c.args.name c.in-Some.number c.look.new.self.table again c.look.ensures.table).there

pub returns-clause-entry : goal.returns-clause-entry
returns-clause-entry c =
    let again = IsShownAgain-number directory_again c.args.nodes.now.table c.args.name c.in-Some.number (sym c.in-Some.ensures) in
    let shown = directory_shown c.args.nodes.now.table c.args.name c.in-Some.number c.look.new.self.table again c.look.ensures.table in
    entry_told c.args.config.now c.look.new.self.table c.in-Some.number again.shown None c.entry_at-2.result shown.there (c.entry_at-2.ensures None refl)
    ∙ ap (λ (n : Numbered). entry_of c.args.config.now n.number n.node None) (sym shown.shown)
