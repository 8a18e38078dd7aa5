-- What `peek` tells is what the list tells.
use Rattle.std.proofs.Common.{sym, ◌∙◌}
use Rattle.stat_records.proofs.Inside.{record_of-inside}
use Rattle.stat_records.proofs.Views.{told-none, told-dead, told-live}
use Rattle.stat_records.proofs.stat_records.StatRecords.peek.Goals as goal

-- what the table has under the key is the key's record
pub returns-in_default-clause-shown : goal.returns-in_default-clause-shown
returns-in_default-clause-shown c = told-none c.args.self.now c.args.key.now c.args.now c.args.lifetime
    (record_of-inside c.self.inside.inner.entries c.self.inside.low c.self.inside.inner.cap c.args.self.now c.args.key.now c.self.view_is ∙ sym c.in_default.ensures)

pub returns-then-not-is_live-clause-shown : goal.returns-then-not-is_live-clause-shown
returns-then-not-is_live-clause-shown c = told-dead c.args.self.now c.args.key.now c.args.now c.args.lifetime c.in-Some.record.now
    (record_of-inside c.self.inside.inner.entries c.self.inside.low c.self.inside.inner.cap c.args.self.now c.args.key.now c.self.view_is ∙ sym c.in-Some.ensures)
    (sym c.is_live.ensures ∙ c.if-not-is_live.true)

pub returns-clause-shown : goal.returns-clause-shown
returns-clause-shown c = told-live c.args.self.now c.args.key.now c.args.now c.args.lifetime c.in-Some.record.now
    (record_of-inside c.self.inside.inner.entries c.self.inside.low c.self.inside.inner.cap c.args.self.now c.args.key.now c.self.view_is ∙ sym c.in-Some.ensures)
    (sym c.is_live.ensures ∙ c.if-not-is_live.false)
