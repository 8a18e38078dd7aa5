-- Memory is refused only to a key without a record.
use Rattle.std.proofs.Common.{is_some, sym, ap, ◌∙◌}
use Rattle.record_spec.specs.RecordList.{record_of}
use Rattle.stat_records.proofs.Inside.{record_of-inside, none_if}
use Rattle.stat_records.proofs.stat_records.StatRecords.observe.Goals as goal

-- the table has the key exactly where the key has a record
pub replace-requires : goal.replace-requires
replace-requires c =
    ap is_some (record_of-inside c.self.inside.inner.entries c.self.inside.low c.self.inside.inner.cap c.args.self.now c.args.key.now c.self.view_is)
    ∙ sym c.contains.ensures ∙ c.if-contains.true

pub add-requires : goal.add-requires
add-requires c = none_if (record_of c.args.self.now c.args.key.now)
    (ap is_some (record_of-inside c.self.inside.inner.entries c.self.inside.low c.self.inside.inner.cap c.args.self.now c.args.key.now c.self.view_is)
    ∙ sym c.contains.ensures ∙ c.if-contains.false)

pub returns-else-add-clause-came : goal.returns-else-add-clause-came
returns-else-add-clause-came c = (
  sym c.is_behind.ensures ∙ c.if-is_behind.false,
  none_if (record_of c.args.self.now c.args.key.now)
      (ap is_some (record_of-inside c.self.inside.inner.entries c.self.inside.low c.self.inside.inner.cap c.args.self.now c.args.key.now c.self.view_is)
      ∙ sym c.contains.ensures ∙ c.if-contains.false),
)
