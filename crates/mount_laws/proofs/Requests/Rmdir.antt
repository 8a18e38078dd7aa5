-- The rules of RMDIR are sound.
use Rattle.std.proofs.Common.{◌≡◌, ◌≢◌, ◌≤◌, ◌+◌, ◌-◌, ℕ, true, List, [], ◌∷◌, Some, refl, sym, subst, arith, inl, inr, length}
use Rattle.std.specs.List.{AllByRecursion}
use Rattle.bucket_api.specs.Operation.{Operation}
use Rattle.bucket_api.specs.declared.answers.Answer.{Answer}
use Rattle.bucket_api.specs.declared.answers.Answer.TheVariants as answers
use Rattle.claim_spec.specs.Conflicts.{IsClaimed}
use Rattle.claim_spec.specs.declared.claim.Claim.{Claim}
use Rattle.claim_spec.specs.declared.claim.ClaimKey.TheVariants as key
use Rattle.fuse_replies.specs.Errno.{enomem, enotempty}
use Rattle.fuse_replies.specs.declared.reply.Reply.TheVariants.{Error}
use Rattle.inode_spec.specs.Inodes.{lookups_of}
use Rattle.mount_model.specs.Observing.{Observed}
use Rattle.mount_rules.specs.Claiming.{owns_name, shares_node}
use Rattle.mount_rules.specs.Guards.{part_refusal}
use Rattle.mount_rules.specs.Laws.{GivesLater, IsCovered, Keeps, Planned, given}
use Rattle.mount_rules.specs.Mount.{IsMount, MountModel}
use Rattle.mount_rules.specs.Plans.{Allows, IsHarmless, answers_of, done}
use Rattle.mount_rules.specs.Requests.Mkdir.{prefix_of}
use Rattle.mount_rules.specs.Requests.Rmdir as rmdir
use Rattle.mount_rules.specs.Requests.Rmdir.{Came, Inside, absent, empty, filled, not_empty, removed}
use Rattle.mount_laws.proofs.Children.{HasPath-none}
use Rattle.mount_laws.proofs.Guarding.{in_directory-memory, part_refusal-memory}
use Rattle.mount_laws.proofs.Keeping.{no_Some}
use Rattle.mount_laws.proofs.Leaving.{Keeps-same}
use Rattle.mount_laws.proofs.Mounts.{GivesLater-same}
use Rattle.mount_laws.proofs.Removing.{removed_agrees, removed_answers, removed_counts, removed_later, removed_leaves, removed_nodes, removed_staged}
use Rattle.mount_laws.proofs.Sights.{LooksClaimed-node}
use Rattle.mount_laws.proofs.Sound.{IsSound}
use Rattle.mount_laws.proofs.Sources.{NodesFrom, NodesFrom-same}

module _ (prefix : List ℕ) where
  -- it asks for a list, and then for the delete of the placeholder
  covers : (told : List Answer) (node : ℕ) (op : Operation) → Allows (rmdir.plan prefix told) op → IsCovered (shares_node node ∷ owns_name prefix ∷ []) op
  covers [] node op allows = subst (IsCovered (shares_node node ∷ owns_name prefix ∷ [])) (sym allows) tt
  covers (a ∷ []) node op allows = by a allows
    where
      on : (found : Inside) → Allows (rmdir.after_page prefix found) op → IsCovered (shares_node node ∷ owns_name prefix ∷ []) op
      on empty allows = subst (IsCovered (shares_node node ∷ owns_name prefix ∷ [])) (sym allows) (inr (inl (refl, refl)))
      on absent allows = absurd allows
      on filled allows = absurd allows

      by : (answer : Answer) → Allows (rmdir.after_list prefix answer) op → IsCovered (shares_node node ∷ owns_name prefix ∷ []) op
      by (answers.Page page) allows = on (rmdir.inside prefix page.items) allows
      by _ allows = absurd allows
  covers (a ∷ b ∷ more) node op allows = absurd allows

  -- once the placeholder is deleted, nothing is asked
  pub rmdir_harmless : (seen : List Observed) → Planned (rmdir.plan prefix) seen → rmdir.plan prefix (answers_of seen) ≢ done → AllByRecursion (λ (o : Observed). IsHarmless o.op) seen
  rmdir_harmless [] planned asks = tt
  rmdir_harmless (o ∷ []) planned asks = (subst IsHarmless (sym planned.0) tt, tt)
  rmdir_harmless (o ∷ p ∷ more) planned asks = absurd (asks refl)

  asks_two : (seen : List Observed) → Planned (rmdir.plan prefix) seen → length seen ≤ 2
  asks_two [] planned = omega arith
  asks_two (o ∷ []) planned = omega arith
  asks_two (o ∷ p ∷ []) planned = omega arith
  asks_two (o ∷ p ∷ q ∷ more) planned = absurd planned.1.1.0

module _ (mount : MountModel) (prefix : List ℕ) where
  later : IsMount mount → (came : Came) → GivesLater mount (rmdir.mount_after mount prefix came)
  later is (removed r) = removed_later mount prefix is r
  later is not_empty = GivesLater-same mount is

  leaves : (claimed : List Claim) → IsClaimed claimed (key.Name prefix) → (came : Came) → Keeps claimed mount (rmdir.mount_after mount prefix came)
  leaves claimed named (removed r) = removed_leaves mount prefix claimed named r
  leaves claimed named not_empty = Keeps-same claimed mount

  agrees : mount.negotiated ≡ true → (came : Came) → (rmdir.mount_after mount prefix came).negotiated ≡ true
  agrees agreed (removed r) = removed_agrees mount prefix agreed r
  agrees agreed not_empty = agreed

  pub rmdir_staged : (came : Came) → (rmdir.mount_after mount prefix came).staged ≡ mount.staged
  rmdir_staged (removed r) = removed_staged mount prefix r
  rmdir_staged not_empty = refl

  counts : (number : ℕ) (came : Came) → lookups_of (rmdir.mount_after mount prefix came).table number ≡ (lookups_of mount.table number + given (rmdir.reply_to came) number) - 0
  counts number (removed r) = removed_counts mount prefix number r
  counts number not_empty = omega arith

  nodes : (Shown : List ℕ → ℕ → ℕ → Type 0) (came : Came) → NodesFrom Shown mount.table (rmdir.mount_after mount prefix came).table
  nodes Shown (removed r) = removed_nodes mount prefix Shown r
  nodes Shown not_empty = NodesFrom-same Shown mount.table

answered : (came : Came) → rmdir.reply_to came ≢ Error enomem
answered (removed r) = removed_answers r
answered not_empty = λ e. let same : enotempty ≡ enomem = cc in absurd (omega (arith, same))

pub rmdir_sound : (node : ℕ) (name : List ℕ) → IsSound (rmdir.rules node name) (λ number. 0) (Some 2)
rmdir_sound node name = record {
  later = λ at mount seen goes. later mount _ goes.is (rmdir.came_of _ (answers_of seen));
  leaves = λ at mount seen goes. leaves mount _ _ (inr (inl refl)) (rmdir.came_of _ (answers_of seen));
  sees = λ at mount goes asks. let has = HasPath-none mount node name goes.is goes.free in LooksClaimed-node _ mount node has.sight has.seen (inl refl);
  covers = λ taken told op allows. covers (prefix_of name taken.view) told node op allows;
  harmless = λ taken seen planned fits asks. rmdir_harmless (prefix_of name taken.view) seen planned asks;
  bounded = λ taken seen n is planned. let two : 2 ≡ n = cc in subst (λ m. length seen ≤ m) two (asks_two (prefix_of name taken.view) seen planned);
  reads = λ taken wanted wants_it. absurd (no_Some wants_it);
  of_files = λ mount wanted is wants_it. absurd (no_Some wants_it);
  agrees = λ taken mount seen agreed. agrees mount _ agreed (rmdir.came_of _ (answers_of seen));
  refuses = λ view. in_directory-memory view.node (part_refusal name) (part_refusal-memory name);
  keeps_staged = λ at mount seen errno free error. rmdir_staged mount _ (rmdir.came_of _ (answers_of seen));
  answers = λ taken mount seen. answered (rmdir.came_of (prefix_of name taken.view) (answers_of seen));
  counts = λ at mount seen number other goes. counts mount _ number (rmdir.came_of _ (answers_of seen));
  nodes = λ Shown at mount seen goes tells. nodes mount _ Shown (rmdir.came_of _ (answers_of seen));
}
