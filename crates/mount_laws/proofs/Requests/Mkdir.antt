-- The rules of MKDIR are sound.
use Rattle.std.proofs.Common.{◌≡◌, ◌≢◌, ◌+◌, ◌-◌, ℕ, true, List, [], Some, refl, arith, inl, inr}
use Rattle.claim_spec.specs.Conflicts.{IsClaimed}
use Rattle.claim_spec.specs.declared.claim.Claim.{Claim}
use Rattle.claim_spec.specs.declared.claim.ClaimKey.TheVariants as key
use Rattle.fuse_replies.specs.Errno.{eexist, eio, enomem}
use Rattle.fuse_replies.specs.declared.reply.Reply.TheVariants.{Error}
use Rattle.inode_spec.specs.Inodes.{lookups_of}
use Rattle.mount_model.specs.declared.config.Config.{Config}
use Rattle.mount_rules.specs.Guards.{part_refusal}
use Rattle.mount_rules.specs.Laws.{GivesLater, Keeps, given}
use Rattle.mount_rules.specs.Making as making
use Rattle.mount_rules.specs.Making.{Made, new, exists, fault}
use Rattle.mount_rules.specs.Mount.{IsMount, MountModel}
use Rattle.mount_rules.specs.Plans.{answers_of}
use Rattle.mount_rules.specs.Requests.Mkdir as mkdir
use Rattle.mount_rules.specs.Showing.{directory_again, new_directory}
use Rattle.object_names.specs.Paths.{IsPrefix}
use Rattle.mount_laws.proofs.Children.{HasPath-none, IsPrefix-path}
use Rattle.mount_laws.proofs.Guarding.{in_directory-memory, part_refusal-memory}
use Rattle.mount_laws.proofs.Keeping.{no_Some}
use Rattle.mount_laws.proofs.Leaving.{Keeps-same, Keeps-table}
use Rattle.mount_laws.proofs.Making.{making_asks_one, making_covers, making_harmless}
use Rattle.mount_laws.proofs.Mounts.{GivesLater-same, GivesLater-table, IsNodeTable-of}
use Rattle.mount_laws.proofs.Showings.{ShownAgain-directory, shown_counts, shown_keeps, shown_later, shown_nodes, shown_stay}
use Rattle.mount_laws.proofs.Sights.{LooksClaimed-node}
use Rattle.mount_laws.proofs.Sound.{IsSound}
use Rattle.mount_laws.proofs.Sources.{NodesFrom, NodesFrom-same}

module _ (mount : MountModel) (is : IsMount mount) (prefix : List ℕ) where
  later : IsPrefix prefix → (came : Made) → GivesLater mount (mkdir.mount_after mount prefix came)
  later prefix_is (new meta) =
      let nodes = IsNodeTable-of mount is in
      GivesLater-table mount is _ (shown_later directory_again ShownAgain-directory mount.table prefix nodes (new_directory prefix) refl prefix_is refl (omega arith))
      (shown_stay directory_again ShownAgain-directory mount.table prefix nodes (new_directory prefix) refl)
  later prefix_is exists = GivesLater-same mount is
  later prefix_is fault = GivesLater-same mount is

  leaves : (claimed : List Claim) → IsClaimed claimed (key.Name prefix) → (came : Made) → Keeps claimed mount (mkdir.mount_after mount prefix came)
  leaves claimed name (new meta) =
      Keeps-table claimed mount _ (shown_keeps directory_again ShownAgain-directory mount.table prefix (IsNodeTable-of mount is) (new_directory prefix) refl claimed name)
  leaves claimed name exists = Keeps-same claimed mount
  leaves claimed name fault = Keeps-same claimed mount

  counts : (config : Config) (number : ℕ) (came : Made)
      → lookups_of (mkdir.mount_after mount prefix came).table number ≡ (lookups_of mount.table number + given (mkdir.reply_to config mount prefix came) number) - 0
  counts config number (new meta) = shown_counts directory_again ShownAgain-directory mount.table prefix (IsNodeTable-of mount is) (new_directory prefix) refl refl number
  counts config number exists = omega arith
  counts config number fault = omega arith

module _ (mount : MountModel) (prefix : List ℕ) where
  nodes : (Shown : List ℕ → ℕ → ℕ → Type 0) (came : Made) → NodesFrom Shown mount.table (mkdir.mount_after mount prefix came).table
  nodes Shown (new meta) = shown_nodes directory_again ShownAgain-directory mount.table prefix Shown (new_directory prefix) tt
  nodes Shown exists = NodesFrom-same Shown mount.table
  nodes Shown fault = NodesFrom-same Shown mount.table

  agrees : mount.negotiated ≡ true → (came : Made) → (mkdir.mount_after mount prefix came).negotiated ≡ true
  agrees agreed (new meta) = agreed
  agrees agreed exists = agreed
  agrees agreed fault = agreed

  pub mkdir_staged : (came : Made) → (mkdir.mount_after mount prefix came).staged ≡ mount.staged
  mkdir_staged (new meta) = refl
  mkdir_staged exists = refl
  mkdir_staged fault = refl

  answered : (config : Config) (came : Made) → mkdir.reply_to config mount prefix came ≢ Error enomem
  answered config (new meta) e = cc
  answered config exists e = let same : eexist ≡ enomem = cc in absurd (omega (arith, same))
  answered config fault e = let same : eio ≡ enomem = cc in absurd (omega (arith, same))

pub mkdir_sound : (node : ℕ) (name : List ℕ) → IsSound (mkdir.rules node name) (λ number. 0) (Some 1)
mkdir_sound node name = record {
  later = λ at mount seen goes.
      let has = HasPath-none mount node name goes.is goes.free in later mount goes.is _ (IsPrefix-path _ has.is_path) (making.made (answers_of seen));
  leaves = λ at mount seen goes. leaves mount goes.is _ _ (inr (inl refl)) (making.made (answers_of seen));
  sees = λ at mount goes asks. let has = HasPath-none mount node name goes.is goes.free in LooksClaimed-node _ mount node has.sight has.seen (inl refl);
  covers = λ taken answers op allows. making_covers (mkdir.prefix_of name taken.view) [] taken.at.second answers node op allows;
  harmless = λ taken seen planned fits asks. making_harmless (mkdir.prefix_of name taken.view) [] taken.at.second seen asks;
  bounded = λ taken seen n is planned. making_asks_one (mkdir.prefix_of name taken.view) [] taken.at.second seen n is planned;
  reads = λ taken wanted wants_it. absurd (no_Some wants_it);
  of_files = λ mount wanted is wants_it. absurd (no_Some wants_it);
  agrees = λ taken mount seen agreed. agrees mount _ agreed (making.made (answers_of seen));
  refuses = λ view. in_directory-memory view.node (part_refusal name) (part_refusal-memory name);
  keeps_staged = λ at mount seen errno free error. mkdir_staged mount _ (making.made (answers_of seen));
  answers = λ taken mount seen. answered mount (mkdir.prefix_of name taken.view) taken.at.config (making.made (answers_of seen));
  counts = λ at mount seen number other goes. counts mount goes.is _ at.config number (making.made (answers_of seen));
  nodes = λ Shown at mount seen goes tells. nodes mount _ Shown (making.made (answers_of seen));
}
