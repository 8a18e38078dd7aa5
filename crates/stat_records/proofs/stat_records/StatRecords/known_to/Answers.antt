-- What the table knows of a key is what the list knows.
use Rattle.std.proofs.Common.{sym, ap, ◌∙◌}
use Rattle.record_spec.proofs.KnownLaws.{moment_or}
use Rattle.stat_records.proofs.Inside.{record_of-inside}
use Rattle.stat_records.proofs.stat_records.StatRecords.known_to.Goals as goal

pub returns-in-Some : goal.returns-in-Some
returns-in-Some c = sym (ap (λ o. moment_or o c.args.self.now.low)
    (record_of-inside c.self.inside.inner.entries c.self.inside.low c.self.inside.inner.cap c.args.self.now c.args.key.now c.self.view_is ∙ sym c.in-Some.ensures))

pub returns-in-None : goal.returns-in-None
returns-in-None c = ap (λ l. l.low) c.self.view_is
    ∙ sym (ap (λ o. moment_or o c.args.self.now.low)
    (record_of-inside c.self.inside.inner.entries c.self.inside.low c.self.inside.inner.cap c.args.self.now c.args.key.now c.self.view_is ∙ sym c.in-None.ensures))
