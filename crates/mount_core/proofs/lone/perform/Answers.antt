-- A request is refused at once, or carried out.
use Rattle.std.proofs.Common.{◌≡◌, ℕ, List, Option, Some, None, refl, ap, subst, sym, ◌∙◌}
use Rattle.fuse_replies.specs.declared.reply.Reply.TheVariants.{Error}
use Rattle.fuse_requests.specs.Grammar.{without_spare}
use Rattle.mount_core.proofs.LonePerformed.{performed_refused}
use Rattle.mount_core.proofs.SendLemmas.{taken-told}
use Rattle.mount_core.proofs.SerialLemmas.{free_early}
use Rattle.mount_core.specs.LoneCalls.{Performs}
use Rattle.mount_model.specs.declared.config.Config.{Config}
use Rattle.mount_model.specs.declared.journal.How.TheVariants as how
use Rattle.io_ports.specs.RowItems.{RowItems}
use Rattle.mount_kept.specs.declared.notes.Note.{Note}
use Rattle.mount_rules.specs.Dispatch.{refused_at_take}
use Rattle.mount_core.proofs.lone.perform.Goals as goal
use Rattle.mount_core.proofs.lone.perform.Goals.{After-early}

none_refused : (found : Option ℕ) → ((errno : ℕ) → found ≡ Some errno → ⊥) → found ≡ None
none_refused None none = refl
none_refused (Some errno) none = absurd (none errno refl)

-- what the mount answers is what refuses the request at these settings
told : (c : After-early) → c.early.result ≡ refused_at_take c.args.config.now c.args.mount.now.mount (without_spare c.args.request.now)
told c = c.early.ensures.errno ∙ ap (λ (config : Config). refused_at_take config c.args.mount.now.mount (without_spare c.args.request.now)) c.requires.same

pub returns-in-Some-clause-ok : goal.returns-in-Some-clause-ok
returns-in-Some-clause-ok c =
    subst (λ (notes : List Note). Performs c.args.config.now c.args.clock c.args.lane c.args.mount.now.mount c.args.kept.now.records c.args.bucket.now (without_spare c.args.request.now) (Error c.in-Some.errno) how.Ok notes
    c.args.mount.now.mount c.args.kept.now.records c.args.bucket.now)
    (sym (ap (λ (n : RowItems Note). n.items) c.new.ensures))
    (performed_refused c.args.config.now c.args.clock c.args.lane c.args.mount.now.mount c.args.kept.now.records c.args.bucket.now (without_spare c.args.request.now) c.in-Some.errno
    (sym (told (goal.at.returns-in-Some-clause-ok c).After-early) ∙ c.in-Some.is))

pub returns-in-Some-clause-sendable : goal.returns-in-Some-clause-sendable
returns-in-Some-clause-sendable c =
    taken-told c.args.config.now c.args.mount.now.mount (without_spare c.args.request.now) c.in-Some.errno
    (sym c.in-Some.is ∙ told (goal.at.returns-in-Some-clause-sendable c).After-early)

pub carry_through-requires-clause-free : goal.carry_through-requires-clause-free
carry_through-requires-clause-free c =
    free_early c.args.config.now c.args.mount.now.mount (without_spare c.args.request.now)
    (sym (told (goal.at.carry_through-requires-clause-free c).After-early) ∙ none_refused c.early.result c.in_default.not-Some)
