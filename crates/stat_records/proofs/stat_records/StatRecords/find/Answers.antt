-- A record that is found is before the others, and is told.
use Rattle.std.proofs.Common.{refl, sym, ap, ◌∙◌}
use Rattle.record_spec.specs.Steps.{live_record}
use Rattle.record_spec.proofs.KnownLaws.{NoneFalls-found}
use Rattle.record_spec.proofs.UseLaws.{finds_lawful}
use Rattle.stat_records.specs.Told.{told_of}
use Rattle.stat_records.proofs.Inside.{found-inside, live-found}
use Rattle.stat_records.proofs.stat_records.StatRecords.find.Goals as goal

pub returns : goal.returns
returns c =
    let after = found-inside c.self.inside.inner.entries c.self.inside.low c.self.inside.inner.cap c.args.self.now c.args.key.now c.args.now c.args.lifetime c.promote.new.self c.self.view_is
    c.len.ensures.valid.0 c.promote.ensures.entries (sym c.has_live.ensures ∙ c.if-not-has_live.false) in (
      (refl, λ _. tt, after),
      (
        c.peek.ensures.shown
            ∙ ap (λ l. told_of (live_record l c.args.key.now c.args.now c.args.lifetime)) after
            ∙ ap told_of (live-found c.args.self.now c.args.key.now c.args.now c.args.lifetime),
        (
          finds_lawful c.args.self.now c.args.key.now c.args.now c.args.lifetime,
          NoneFalls-found c.args.self.now c.args.key.now c.args.now c.args.lifetime,
        ),
      ),
    )
