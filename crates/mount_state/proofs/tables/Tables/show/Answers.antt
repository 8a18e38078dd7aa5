-- The node that shows the name again is refreshed, looked up once more and told of.
use Rattle.std.proofs.Common.{sym, ◌∙◌}
use Rattle.std.specs.FinMap as fin
use Rattle.mount_rules.specs.Showing.{object_again}
use Rattle.mount_state.specs.Tables.{mount_of}
use Rattle.mount_state.proofs.ShowingLaws.{IsShownAgain-number, entry_again, entry_new, entry_told, is_there, object_shown, refreshed_there}
use Rattle.mount_state.proofs.tables.Tables.show.Goals as goal

pub returns-in_default-clause-entry : goal.returns-in_default-clause-entry
returns-in_default-clause-entry c =
    c.make.ensures.entry ∙ entry_new c.args.config.now (mount_of c.args.self.now) c.args.name c.args.meta c.args.moment (sym c.in_default.is ∙ c.shown_again.ensures)

pub look-requires-clause-there : goal.look-requires-clause-there
look-requires-clause-there c =
    let again = IsShownAgain-number (object_again c.args.meta c.args.moment) c.args.self.now.nodes.table c.args.name c.in-Some.number (sym c.in-Some.ensures) in
    is_there c.refresh.new.nodes.table c.in-Some.number _
    (refreshed_there c.args.self.now.nodes.table c.args.name c.args.meta c.args.moment c.in-Some.number again c.refresh.new.nodes.table c.refresh.ensures.table)

pub entry_at-requires : goal.entry_at-requires
entry_at-requires c =
    let again = IsShownAgain-number (object_again c.args.meta c.args.moment) c.args.self.now.nodes.table c.args.name c.in-Some.number (sym c.in-Some.ensures) in
    let shown = object_shown c.args.self.now.nodes.table c.args.name c.args.meta c.args.moment c.in-Some.number again c.refresh.new.nodes.table c.look.new.self.table c.refresh.ensures.table c.look.ensures.table in
    is_there c.look.new.self.table c.in-Some.number again.shown shown.there

pub returns-clause-entry : goal.returns-clause-entry
returns-clause-entry c =
    let again = IsShownAgain-number (object_again c.args.meta c.args.moment) c.args.self.now.nodes.table c.args.name c.in-Some.number (sym c.in-Some.ensures) in
    let shown = object_shown c.args.self.now.nodes.table c.args.name c.args.meta c.args.moment c.in-Some.number again c.refresh.new.nodes.table c.look.new.self.table c.refresh.ensures.table c.look.ensures.table in
    let staged = fin.get c.args.self.now.staging.files c.in-Some.number in
    entry_told c.args.config.now c.look.new.self.table c.in-Some.number again.shown staged c.entry_at.result shown.there (c.entry_at.ensures staged c.staged_attr-staged.ensures)
    ∙ entry_again c.args.config.now (mount_of c.args.self.now) c.args.name c.args.meta c.args.moment c.in-Some.number again

pub returns-clause-table : goal.returns-clause-table
returns-clause-table c =
    let again = IsShownAgain-number (object_again c.args.meta c.args.moment) c.args.self.now.nodes.table c.args.name c.in-Some.number (sym c.in-Some.ensures) in
    (object_shown c.args.self.now.nodes.table c.args.name c.args.meta c.args.moment c.in-Some.number again c.refresh.new.nodes.table c.look.new.self.table c.refresh.ensures.table c.look.ensures.table).table_is
