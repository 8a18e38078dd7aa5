-- The rules of CREATE are sound.
use Rattle.std.proofs.Common.{◌≡◌, ◌+◌, ◌-◌, ℕ, true, List, [], Some, None, refl, arith, inl, inr}
use Rattle.bucket_api.specs.Metadata.{Metadata}
use Rattle.claim_spec.specs.Conflicts.{IsClaimed}
use Rattle.claim_spec.specs.declared.claim.Claim.{Claim}
use Rattle.claim_spec.specs.declared.claim.ClaimKey.TheVariants as key
use Rattle.fuse_replies.specs.Errno.{eexist, eio, enomem}
use Rattle.fuse_replies.specs.declared.reply.Reply.TheVariants.{Error}
use Rattle.inode_spec.specs.Inodes.{granted, lookups_of}
use Rattle.mount_model.specs.declared.config.Config.{Config}
use Rattle.object_names.specs.Paths.{IsPath}
use Rattle.mount_rules.specs.Guards.{part_refusal}
use Rattle.mount_rules.specs.Laws.{GivesLater, Keeps, given}
use Rattle.mount_rules.specs.Making as making
use Rattle.mount_rules.specs.Making.{Made, new, exists, fault}
use Rattle.mount_rules.specs.Mount.{IsMount, MountModel}
use Rattle.mount_rules.specs.Plans.{answers_of}
use Rattle.mount_rules.specs.Requests.Create as create
use Rattle.mount_rules.specs.Showing.{new_node}
use Rattle.mount_laws.proofs.Children.{HasPath-none}
use Rattle.mount_laws.proofs.Guarding.{in_directory-memory, part_refusal-memory}
use Rattle.mount_laws.proofs.Keeping.{TableKeeps-granted, no_Some}
use Rattle.mount_laws.proofs.Leaving.{Keeps-opened, Keeps-same}
use Rattle.mount_laws.proofs.Making.{GivesLater-made, counts_made, making_asks_one, making_covers, making_harmless, making_told}
use Rattle.mount_laws.proofs.Mounts.{GivesLater-opened, GivesLater-same, GivesLater-then}
use Rattle.mount_laws.proofs.Sights.{LooksClaimed-node}
use Rattle.mount_laws.proofs.Sound.{IsSound}
use Rattle.mount_laws.proofs.Sources.{NodesFrom, NodesFrom-same, NodesFrom-told}

module _ (mount : MountModel) (is : IsMount mount) (path : List ℕ) (moment : ℕ) where
  later : IsPath path → (came : Made) → GivesLater mount (create.mount_after mount path moment came)
  later path_is (new meta) =
      let table = GivesLater-made mount is path meta moment path_is in GivesLater-then table (GivesLater-opened _ table.is (record { node = mount.table.next; items = None }))
  later path_is exists = GivesLater-same mount is
  later path_is fault = GivesLater-same mount is

  leaves : (claimed : List Claim) → IsClaimed claimed (key.Name path) → (came : Made) → Keeps claimed mount (create.mount_after mount path moment came)
  leaves claimed name (new meta) =
      Keeps-opened claimed mount is (granted mount.table (new_node path meta moment)) (TableKeeps-granted claimed mount.table (new_node path meta moment) is.nodes name)
      (record { node = mount.table.next; items = None })
  leaves claimed name exists = Keeps-same claimed mount
  leaves claimed name fault = Keeps-same claimed mount

  nodes : (Shown : List ℕ → ℕ → ℕ → Type 0) (came : Made) → ((meta : Metadata) → came ≡ new meta → Shown path meta.generation meta.size)
      → NodesFrom Shown mount.table (create.mount_after mount path moment came).table
  nodes Shown (new meta) shows = NodesFrom-told Shown mount.table mount.table.next (new_node path meta moment) (shows meta refl)
  nodes Shown exists shows = NodesFrom-same Shown mount.table
  nodes Shown fault shows = NodesFrom-same Shown mount.table

  counts : (config : Config) (number : ℕ) (came : Made)
      → lookups_of (create.mount_after mount path moment came).table number ≡ (lookups_of mount.table number + given (create.reply_to config mount path moment came) number) - 0
  counts config number (new meta) = counts_made mount is path meta moment number
  counts config number exists = omega arith
  counts config number fault = omega arith

answered : (config : Config) (mount : MountModel) (path : List ℕ) (moment : ℕ) (came : Made) → create.reply_to config mount path moment came ≡ Error enomem → ⊥
answered config mount path moment (new meta) e = cc
answered config mount path moment exists e = let same : eexist ≡ enomem = cc in absurd (omega (arith, same))
answered config mount path moment fault e = let same : eio ≡ enomem = cc in absurd (omega (arith, same))

agrees : (mount : MountModel) (path : List ℕ) (moment : ℕ) → mount.negotiated ≡ true → (came : Made) → (create.mount_after mount path moment came).negotiated ≡ true
agrees mount path moment agreed (new meta) = agreed
agrees mount path moment agreed exists = agreed
agrees mount path moment agreed fault = agreed

keeps_staged : (mount : MountModel) (path : List ℕ) (moment : ℕ) (came : Made) → (create.mount_after mount path moment came).staged ≡ mount.staged
keeps_staged mount path moment (new meta) = refl
keeps_staged mount path moment exists = refl
keeps_staged mount path moment fault = refl

pub create_sound : (node : ℕ) (name : List ℕ) → IsSound (create.rules node name) (λ number. 0) (Some 1)
create_sound node name = record {
  later = λ at mount seen goes. later mount goes.is _ _ (HasPath-none mount node name goes.is goes.free).is_path (making.made (answers_of seen));
  leaves = λ at mount seen goes. leaves mount goes.is _ _ _ (inr (inl refl)) (making.made (answers_of seen));
  sees = λ at mount goes asks. let has = HasPath-none mount node name goes.is goes.free in LooksClaimed-node _ mount node has.sight has.seen (inl refl);
  covers = λ taken answers op allows. making_covers (create.path_of name taken.view) [] taken.at.second answers node op allows;
  harmless = λ taken seen planned fits asks. making_harmless (create.path_of name taken.view) [] taken.at.second seen asks;
  bounded = λ taken seen n is planned. making_asks_one (create.path_of name taken.view) [] taken.at.second seen n is planned;
  reads = λ taken wanted wants_it. absurd (no_Some wants_it);
  of_files = λ mount wanted is wants_it. absurd (no_Some wants_it);
  agrees = λ taken mount seen agreed. agrees mount _ _ agreed (making.made (answers_of seen));
  refuses = λ view. in_directory-memory view.node (part_refusal name) (part_refusal-memory name);
  keeps_staged = λ at mount seen errno free error. keeps_staged mount _ _ (making.made (answers_of seen));
  answers = λ taken mount seen. answered taken.at.config mount (create.path_of name taken.view) _ (making.made (answers_of seen));
  counts = λ at mount seen number other goes. counts mount goes.is _ _ at.config number (making.made (answers_of seen));
  nodes = λ Shown at mount seen goes tells. nodes mount goes.is _ _ Shown (making.made (answers_of seen)) (λ meta e. making_told _ [] at.second Shown seen meta tells e);
}
