-- A key that has a record gets another at the front.
use Rattle.std.proofs.Common.{sym, ◌∙◌}
use Rattle.stat_records.proofs.Inside.{record_of-inside, replaced-inside, some_lent}
use Rattle.stat_records.proofs.stat_records.StatRecords.replace.Goals as goal

pub unwrap-slot-requires : goal.unwrap-slot-requires
unwrap-slot-requires c =
    some_lent c.get_mut.result _
    (c.get_mut.ensures.value ∙ sym (record_of-inside c.self.inside.inner.entries c.self.inside.low c.self.inside.inner.cap c.args.self.now c.args.key.now c.self.view_is)) c.requires

pub returns : goal.returns
returns c =
    replaced-inside c.self.inside.inner.entries c.self.inside.low c.self.inside.inner.cap c.args.self.now c.args.key.now c.args.observed c.self.view_is
    c.len.ensures.valid.0 c.len.ensures.valid.1 c.requires
