-- A key without a record gets one at the front.
use Rattle.stat_records.proofs.Inside.{kept-inside}
use Rattle.stat_records.proofs.stat_records.StatRecords.add.Goals as goal

pub returns : goal.returns
returns c =
    kept-inside c.self.inside.inner.entries c.self.inside.low c.self.inside.inner.cap c.args.self.now c.args.key.now c.args.observed
    c.in-Ok.key c.in-Ok-push.out c.push.new.self c.raised_by-self-inside.result
    c.self.view_is c.len.ensures.valid.2 c.requires c.in-Ok.ensures.ok c.in-Ok-push.ensures.entries c.in-Ok-push.ensures.old c.raised_by-self-inside.ensures
