-- Requests that ask nothing of the bucket and leave the mount as it was.
use Rattle.std.proofs.Common.{◌≡◌, ◌≢◌, ℕ, List, [], sym, ap, subst, ◌∙◌, arith, Some, None}
use Rattle.bucket_api.specs.declared.answers.Answer.{Answer}
use Rattle.fuse_replies.specs.declared.reply.Reply.TheVariants.{Error}
use Rattle.inode_spec.specs.Inodes.{lookups_of}
use Rattle.fuse_replies.specs.Errno.{enomem}
use Rattle.mount_rules.specs.Laws.{GivesLater, Keeps, given}
use Rattle.mount_rules.specs.Mount.{MountModel}
use Rattle.mount_model.specs.Observing.{Observed}
use Rattle.mount_rules.specs.Plans.{Allows, Step, done}
use Rattle.mount_rules.specs.Rules.{Rules, Taken}
use Rattle.mount_rules.specs.View.{View, view_of}
use Rattle.mount_laws.proofs.Asking.{asks_none, at_most_none, harmless_none}
use Rattle.mount_laws.proofs.Keeping.{no_Some}
use Rattle.mount_laws.proofs.Leaving.{Keeps-same}
use Rattle.mount_laws.proofs.Mounts.{GivesLater-same}
use Rattle.mount_laws.proofs.Sound.{IsSound, taken_by}
use Rattle.mount_laws.proofs.Sources.{NodesFrom, NodesFrom-same}

pub record IsQuiet (rules : Rules) : Type 0 where
  pub plan_done : (taken : Taken) (answers : List Answer) → rules.plan taken answers ≡ done
  pub wants_none : (view : View) → rules.wants view ≡ None
  pub stays : (taken : Taken) (mount : MountModel) (seen : List Observed) → rules.after taken mount seen ≡ mount
  pub refuses : (view : View) → rules.refusal view ≢ Some enomem
  pub answers : (taken : Taken) (mount : MountModel) (seen : List Observed) → rules.reply taken mount seen ≢ Error enomem
  pub gives : (taken : Taken) (mount : MountModel) (seen : List Observed) (number : ℕ) → given (rules.reply taken mount seen) number ≡ 0

pub IsSound-quiet : (rules : Rules) → IsQuiet rules → IsSound rules (λ number. 0) (Some 0)
IsSound-quiet rules quiet = record {
  later = λ at mount seen goes. subst (GivesLater mount) (sym (quiet.stays _ mount seen)) (GivesLater-same mount goes.is);
  leaves = λ at mount seen goes. subst (Keeps (rules.claims (view_of mount rules.looks)) mount) (sym (quiet.stays _ mount seen)) (Keeps-same _ mount);
  sees = λ at mount goes asks. absurd (asks (quiet.plan_done (taken_by rules at mount) []));
  covers = λ taken answers op allows. absurd (subst (λ (step : Step). Allows step op) (quiet.plan_done taken answers) allows);
  harmless = λ taken seen planned fits asks. harmless_none (rules.plan taken) (quiet.plan_done taken []) seen planned;
  bounded = λ taken seen n is planned. at_most_none seen n is (asks_none (rules.plan taken) (quiet.plan_done taken []) seen planned);
  reads = λ taken wanted wants_it. absurd (no_Some (sym (quiet.wants_none taken.view) ∙ wants_it));
  of_files = λ mount wanted is wants_it. absurd (no_Some (sym (quiet.wants_none (view_of mount rules.looks)) ∙ wants_it));
  agrees = λ taken mount seen agreed. ap (λ (m : MountModel). m.negotiated) (quiet.stays taken mount seen) ∙ agreed;
  refuses = quiet.refuses;
  keeps_staged = λ at mount seen errno free error. ap (λ (m : MountModel). m.staged) (quiet.stays (taken_by rules at mount) mount seen);
  answers = quiet.answers;
  counts = λ at mount seen number other goes.
      let taken = taken_by rules at mount in
      let none : given (rules.reply taken mount seen) number ≡ 0 = quiet.gives taken mount seen number in
      let same : lookups_of (rules.after taken mount seen).table number ≡ lookups_of mount.table number = ap (λ (m : MountModel). lookups_of m.table number) (quiet.stays taken mount seen) in
      omega (arith, none, same);
  nodes = λ Shown at mount seen goes tells. subst (λ (m : MountModel). NodesFrom Shown mount.table m.table) (sym (quiet.stays _ mount seen)) (NodesFrom-same Shown mount.table);
}
