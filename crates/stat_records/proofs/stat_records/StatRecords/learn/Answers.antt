-- The laws of learning, of the list that is left.
use Rattle.std.proofs.Common.{◌≤◌, ◌∷◌, sym, ap, subst, ◌∙◌}
use Rattle.record_spec.specs.declared.records.Record.{Record}
use Rattle.record_spec.specs.RecordList.{known_to}
use Rattle.record_spec.specs.Steps.{learned, MayBe}
use Rattle.record_spec.specs.Past.{KeepsUp}
use Rattle.record_spec.proofs.KnownLaws.{NoneFalls-learned}
use Rattle.record_spec.proofs.UseLaws.{KeepsUp-learned}
use Rattle.stat_records.proofs.Inside.{few-inside}
use Rattle.stat_records.proofs.stat_records.StatRecords.learn.Goals as goal

-- each law of learning, of the list that is left
pub returns-clause-rises : goal.returns-clause-rises
returns-clause-rises c = λ key.
    let observed : Record = record { moment = c.args.moment; tick = c.args.tick; shown = c.args.shown } in
    subst (λ l. known_to c.args.self.now key ≤ known_to l key)
    (sym (c.observe.ensures.records ∙ ap (λ q. learned c.args.self.now q observed c.observe.result) c.as_str.ensures.bytes))
    (NoneFalls-learned c.args.self.now c.args.key.now observed c.observe.result
    (few-inside c.self.inside.inner.entries c.self.inside.low c.self.inside.inner.cap c.args.self.now c.self.view_is c.len.ensures.valid.1)
    (subst (λ q. MayBe c.args.self.now q c.args.moment c.observe.result) c.as_str.ensures.bytes c.observe.ensures.came) key)

pub returns-clause-keeps_up : goal.returns-clause-keeps_up
returns-clause-keeps_up c = λ implicit past k.
    let observed : Record = record { moment = c.args.moment; tick = c.args.tick; shown = c.args.shown } in
    subst (λ l. KeepsUp implicit (record past { seen = (c.args.key.now, observed) ∷ past.seen }) l)
    (sym (c.observe.ensures.records ∙ ap (λ q. learned c.args.self.now q observed c.observe.result) c.as_str.ensures.bytes))
    (KeepsUp-learned implicit past c.args.self.now c.args.key.now observed c.observe.result k
    (subst (λ q. MayBe c.args.self.now q c.args.moment c.observe.result) c.as_str.ensures.bytes c.observe.ensures.came))
