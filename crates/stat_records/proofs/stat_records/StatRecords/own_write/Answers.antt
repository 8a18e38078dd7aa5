-- The laws of a write, of the list that is left.
use Rattle.std.proofs.Common.{◌≤◌, ◌∷◌, sym, ap, subst, ◌∙◌}
use Rattle.record_spec.specs.RecordList.{record_of, known_to}
use Rattle.record_spec.specs.Steps.{raised}
use Rattle.record_spec.specs.Past.{KeepsUp}
use Rattle.record_spec.proofs.KnownLaws.{NoneFalls-written}
use Rattle.record_spec.proofs.UseLaws.{KeepsUp-written}
use Rattle.record_spec.proofs.WrittenLaws.{none-written, stays-written}
use Rattle.stat_records.proofs.stat_records.StatRecords.own_write.Goals as goal

-- each law of a write, of the list that is left
pub returns-clause-gone : goal.returns-clause-gone
returns-clause-gone c = λ key writes.
    ap (λ l. record_of l key) (c.raise.ensures ∙ ap (λ l. raised l c.args.moment) c.go_with.ensures)
    ∙ none-written c.args.self.now c.args.name.now c.args.moment c.args.implicit key writes

pub returns-clause-kept : goal.returns-clause-kept
returns-clause-kept c = λ key other.
    ap (λ l. record_of l key) (c.raise.ensures ∙ ap (λ l. raised l c.args.moment) c.go_with.ensures)
    ∙ stays-written c.args.self.now c.args.name.now c.args.moment c.args.implicit key other

pub returns-clause-rises : goal.returns-clause-rises
returns-clause-rises c = λ key.
    subst (λ l. known_to c.args.self.now key ≤ known_to l key) (sym (c.raise.ensures ∙ ap (λ l. raised l c.args.moment) c.go_with.ensures))
    (NoneFalls-written c.args.self.now c.args.name.now c.args.moment c.args.implicit key)

pub returns-clause-keeps_up : goal.returns-clause-keeps_up
returns-clause-keeps_up c = λ past k.
    subst (λ l. KeepsUp c.args.implicit (record past { written = (c.args.name.now, c.args.moment) ∷ past.written }) l) (sym (c.raise.ensures ∙ ap (λ l. raised l c.args.moment) c.go_with.ensures))
    (KeepsUp-written c.args.implicit past c.args.self.now c.args.name.now c.args.moment k)
