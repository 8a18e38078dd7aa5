-- What tells of the mount still does.
use Rattle.std.proofs.Common.{refl, subst, sym}
use Rattle.bucket_api.specs.Operation.{IsAllowed, operation}
use Rattle.logged_bucket.specs.Logging.{next_event}
use Rattle.mount_core.proofs.LoggedEvents.{of_bucket_on}
use Rattle.mount_core.proofs.LoneBetween.{between_written, writes_so}
use Rattle.mount_core.specs.Logged.{IsOfBucket}
use Rattle.mount_core.specs.LoneCalls.{lone_of}
use Rattle.mount_core.specs.Lones.{HasNoCall, LoneState, Writes}
use Rattle.mount_model.specs.Journal.{entries}
use Rattle.mount_core.proofs.lone.Lone.remote.Goals as goal
use Rattle.mount_core.proofs.lone.Lone.remote.Goals.{In_ok-act}

sound : (c : In_ok-act) → IsOfBucket c.act.new.self
sound c =
    of_bucket_on c.args.lane (operation c.in_ok-op.op) c.self.inside.bucket c.act.new.self c.in_ok-act.field-0.0 c.in_ok-act.field-0.1
    (subst IsAllowed (sym c.in_ok-op.ensures.ok) c.requires.may) c.in_ok-act.ensures.ok c.self.invariant.bucket

pub invariant_of-self-2 : goal.invariant_of-self-2
invariant_of-self-2 c =
    between_written c.self.inside.config c.self.inside.mount c.self.inside.kept.records c.self.inside.bucket (entries c.self.inside.journal.items) c.self.inside.clock c.self.invariant c.args.lane
    (operation c.in_ok-op.op) c.act.new.self (next_event c.self.inside.bucket c.args.lane (operation c.in_ok-op.op)) refl c.in_ok-act.ensures.ok.log (sound (goal.at.invariant_of-self-2 c).In_ok-act)
    (subst (λ (l : LoneState). HasNoCall l c.args.lane) (sym c.self.view_is) c.requires.beside)

pub returns-clause-told : goal.returns-clause-told
returns-clause-told c =
    subst (λ (l : LoneState). Writes l (lone_of c.self.inside.config c.act.new.self (entries c.self.inside.journal.items))) c.self.view_is
    (writes_so c.self.inside.config c.self.inside.mount c.self.inside.kept.records c.self.inside.bucket (entries c.self.inside.journal.items) c.self.inside.clock c.self.invariant c.args.lane
    (operation c.in_ok-op.op) c.act.new.self (next_event c.self.inside.bucket c.args.lane (operation c.in_ok-op.op)) refl c.in_ok-act.ensures.ok.log (sound (goal.at.returns-clause-told c).In_ok-act)
    (subst (λ (l : LoneState). HasNoCall l c.args.lane) (sym c.self.view_is) c.requires.beside))
