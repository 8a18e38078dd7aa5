-- The account goes on by the seconds.
use Rattle.std.proofs.Common.{◌≡◌, ◌+◌, ◌∷◌, ◌++◌, [], List, length, ap, subst, sym, ◌∙◌}
use Rattle.mount_core.proofs.LoneBetween.{between_ticked, entries_on, ticks_so}
use Rattle.mount_core.specs.LoneCalls.{IsBetween, lone_of}
use Rattle.mount_core.specs.Lones.{LoneState, Ticks, with_tick}
use Rattle.mount_model.specs.Journal as journal
use Rattle.mount_model.specs.Journal.{Entry, entries}
use Rattle.mount_model.specs.declared.journal.JournalEntry.{JournalEntry}
use Rattle.mount_core.proofs.lone.Lone.tick.Goals as goal
use Rattle.mount_core.proofs.lone.Lone.tick.Goals.{After-push}

pushed : (c : After-push) → entries c.push.new.self.items ≡ entries c.self.inside.journal.items ++ journal.ticked (length c.self.inside.bucket.log) c.args.seconds ∷ []
pushed c =
    ap entries c.push.ensures.items ∙ entries_on c.reserve.new.self.items _
    ∙ ap (λ (items : List JournalEntry). entries items ++ journal.ticked c.len-front.result c.args.seconds ∷ []) c.in_ok-reserve.ensures.kept
    ∙ ap (λ n. entries c.self.inside.journal.items ++ journal.ticked n c.args.seconds ∷ []) (c.len-front.ensures ∙ ap length c.log.ensures)

counted : (c : After-push) → c.in-Some.clock ≡ c.self.inside.clock + c.args.seconds
counted c = c.in-Some.ensures.1

pub invariant_of-self-2 : goal.invariant_of-self-2
invariant_of-self-2 c =
    let was = (goal.at.invariant_of-self-2 c).After-push in
    subst (λ (es : List Entry). IsBetween c.self.inside.config c.self.inside.mount c.self.inside.kept.records c.self.inside.bucket es c.in-Some.clock) (sym (pushed was))
    (between_ticked c.self.inside.config c.self.inside.mount c.self.inside.kept.records c.self.inside.bucket (entries c.self.inside.journal.items) c.self.inside.clock c.self.invariant
    c.args.seconds c.in-Some.clock (counted was))

pub returns-clause-told : goal.returns-clause-told
returns-clause-told c =
    let was = (goal.at.returns-clause-told c).After-push in
    subst (λ (l : LoneState). Ticks c.args.self.now l c.args.seconds)
    (ap (λ (s : LoneState). with_tick s c.args.seconds) (sym c.self.view_is) ∙ ap (lone_of c.self.inside.config c.self.inside.bucket) (sym (pushed was)))
    (subst (λ (s : LoneState). Ticks s (with_tick s c.args.seconds) c.args.seconds) c.self.view_is
    (ticks_so c.self.inside.config c.self.inside.mount c.self.inside.kept.records c.self.inside.bucket (entries c.self.inside.journal.items) c.self.inside.clock c.self.invariant
    c.args.seconds c.in-Some.clock (counted was)))
