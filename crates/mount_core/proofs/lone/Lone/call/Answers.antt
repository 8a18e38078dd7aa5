-- One call more.
use Rattle.std.proofs.Common.{◌≡◌, ◌∷◌, ◌++◌, [], List, length, ap, append_assoc, subst, sym, ◌∙◌}
use Rattle.fuse_replies.specs.Replies.{without_spare as reply_without_spare}
use Rattle.fuse_requests.specs.Grammar.{without_spare}
use Rattle.mount_core.proofs.LoneBetween.{between_after, calls_one, entries_on, files_so, short_so, some_taken}
use Rattle.mount_core.specs.LoneCalls.{lone_of}
use Rattle.mount_core.specs.Lones.{CallsOne, HasNext, LoneState}
use Rattle.mount_model.specs.Journal as journal
use Rattle.mount_model.specs.Journal.{Entry, entries}
use Rattle.mount_model.specs.declared.journal.Fill.TheVariants as fill
use Rattle.mount_model.specs.declared.journal.JournalEntry.{JournalEntry}
use Rattle.mount_core.proofs.lone.Lone.call.Goals as goal
use Rattle.mount_core.proofs.lone.Lone.call.Goals.{After-push-2}

pub perform-requires-clause-short : goal.perform-requires-clause-short
perform-requires-clause-short c =
    short_so c.self.inside.config c.self.inside.mount c.self.inside.kept.records c.self.inside.bucket (entries c.self.inside.journal.items) c.self.inside.clock c.self.invariant

pub perform-requires-clause-files : goal.perform-requires-clause-files
perform-requires-clause-files c =
    files_so c.self.inside.config c.self.inside.mount c.self.inside.kept.records c.self.inside.bucket (entries c.self.inside.journal.items) c.self.inside.clock c.self.invariant

pub perform-requires-clause-some : goal.perform-requires-clause-some
perform-requires-clause-some c =
    some_taken c.self.inside.config c.self.inside.mount c.self.inside.kept.records c.self.inside.bucket (entries c.self.inside.journal.items) c.self.inside.clock c.self.invariant
    c.args.call (without_spare c.args.request) (subst (λ (l : LoneState). HasNext l c.args.call) (sym c.self.view_is) c.requires.next)

-- behind the journal stand its take and its end
pushed : (c : After-push-2)
    → entries c.push-2.new.self.items ≡ entries c.self.inside.journal.items ++ journal.taken c.args.call (length c.self.inside.bucket.log) (without_spare c.args.request)
    ∷ journal.done c.args.call (length c.perform.new.bucket.log) c.in_ok-reply.field-0.how c.tell-uses.result.items fill.Nothing ∷ []
pushed c =
    ap entries c.push-2.ensures.items ∙ entries_on c.push.new.self.items _
    ∙ ap (λ (es : List Entry). es ++ journal.done c.args.call c.len.result c.in_ok-reply.field-0.how c.tell-uses.result.items fill.Nothing ∷ []) taken
    ∙ append_assoc (entries c.self.inside.journal.items) (journal.taken c.args.call (length c.self.inside.bucket.log) (without_spare c.args.request) ∷ []) _
    ∙ ap (λ n. entries c.self.inside.journal.items ++ journal.taken c.args.call (length c.self.inside.bucket.log) (without_spare c.args.request)
    ∷ journal.done c.args.call n c.in_ok-reply.field-0.how c.tell-uses.result.items fill.Nothing ∷ []) (c.len.ensures ∙ ap length c.log-2.ensures)
  where
    taken : entries c.push.new.self.items ≡ entries c.self.inside.journal.items ++ journal.taken c.args.call (length c.self.inside.bucket.log) (without_spare c.args.request) ∷ []
    taken =
        ap entries c.push.ensures.items ∙ entries_on c.reserve.new.self.items _
        ∙ ap (λ (items : List JournalEntry). entries items ++ journal.taken c.args.call c.len-front.result (without_spare c.args.request) ∷ []) c.in_ok-reserve.ensures.kept
        ∙ ap (λ n. entries c.self.inside.journal.items ++ journal.taken c.args.call n (without_spare c.args.request) ∷ []) (c.len-front.ensures ∙ ap length c.log.ensures)

pub invariant_of-self-2 : goal.invariant_of-self-2
invariant_of-self-2 c =
    let was = (goal.at.invariant_of-self-2 c).After-push-2 in
    between_after c.self.inside.config c.self.inside.mount c.self.inside.kept.records c.self.inside.bucket (entries c.self.inside.journal.items) c.self.inside.clock c.self.invariant
    c.args.call (without_spare c.args.request) (subst (λ (l : LoneState). HasNext l c.args.call) (sym c.self.view_is) c.requires.next)
    (reply_without_spare c.in_ok-reply.field-0.reply) c.in_ok-reply.field-0.how c.in_ok-reply.field-0.notes.items c.tell-uses.result.items c.perform.new.mount
    c.perform.new.kept.records c.tell-uses.new.self.records c.perform.new.bucket (entries c.push-2.new.self.items) c.in_ok-reply.ensures.valid c.in_ok-reply.ensures.bucket
    c.in_ok-reply.ensures.ok c.tell-uses.ensures.ok c.in_ok-reply.ensures.kept (pushed was)

pub returns-clause-ok : goal.returns-clause-ok
returns-clause-ok c =
    let was = (goal.at.returns-clause-ok c).After-push-2 in
    subst (λ (l : LoneState). CallsOne l c.args.call (without_spare c.args.request) (reply_without_spare c.in_ok-reply.field-0.reply)
    (lone_of c.self.inside.config c.perform.new.bucket (entries c.push-2.new.self.items))) c.self.view_is
    (calls_one c.self.inside.config c.self.inside.mount c.self.inside.kept.records c.self.inside.bucket (entries c.self.inside.journal.items) c.self.inside.clock c.self.invariant
    c.args.call (without_spare c.args.request) (subst (λ (l : LoneState). HasNext l c.args.call) (sym c.self.view_is) c.requires.next)
    (reply_without_spare c.in_ok-reply.field-0.reply) c.in_ok-reply.field-0.how c.in_ok-reply.field-0.notes.items c.tell-uses.result.items c.perform.new.mount
    c.perform.new.kept.records c.tell-uses.new.self.records c.perform.new.bucket (entries c.push-2.new.self.items) c.in_ok-reply.ensures.valid c.in_ok-reply.ensures.bucket
    c.in_ok-reply.ensures.ok c.tell-uses.ensures.ok c.in_ok-reply.ensures.kept (pushed was))
