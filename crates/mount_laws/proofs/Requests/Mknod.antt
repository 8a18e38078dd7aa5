-- The rules of MKNOD are sound, and those of each request that makes an object of a name and a new node of it.
use Rattle.std.proofs.Common.{◌≡◌, ◌≢◌, ◌+◌, ◌-◌, ℕ, Bool, true, false, List, Option, Some, None, refl, arith, inl, inr}
use Rattle.std.specs.Prelude.{if◌then◌else◌}
use Rattle.bucket_api.specs.Metadata.{Metadata}
use Rattle.bucket_api.specs.declared.objects.Pair.{Pair}
use Rattle.claim_spec.specs.Conflicts.{IsClaimed}
use Rattle.claim_spec.specs.declared.claim.Claim.{Claim}
use Rattle.claim_spec.specs.declared.claim.ClaimKey.TheVariants as key
use Rattle.fuse_replies.specs.Errno.{eexist, eio, enomem, enosys}
use Rattle.fuse_replies.specs.declared.reply.Reply.TheVariants.{Error}
use Rattle.inode_spec.specs.Inodes.{lookups_of}
use Rattle.mount_model.specs.declared.config.Config.{Config}
use Rattle.mount_rules.specs.Guards.{part_refusal}
use Rattle.mount_rules.specs.Laws.{GivesLater, Keeps, given}
use Rattle.mount_rules.specs.Making as making
use Rattle.mount_rules.specs.Making.{Made, new, exists, fault}
use Rattle.mount_rules.specs.Mount.{IsMount, MountModel}
use Rattle.mount_rules.specs.Plans.{answers_of}
use Rattle.mount_rules.specs.Requests.Create as create
use Rattle.mount_rules.specs.Requests.Mknod as mknod
use Rattle.mount_rules.specs.Showing.{new_node}
use Rattle.mount_rules.specs.View.{View}
use Rattle.object_names.specs.Paths.{IsPath}
use Rattle.mount_laws.proofs.Children.{HasPath-none}
use Rattle.mount_laws.proofs.Guarding.{in_directory-memory, part_refusal-memory}
use Rattle.mount_laws.proofs.Keeping.{TableKeeps-granted, no_Some}
use Rattle.mount_laws.proofs.Leaving.{Keeps-same, Keeps-table}
use Rattle.mount_laws.proofs.Making.{GivesLater-made, counts_made, making_asks_one, making_covers, making_harmless, making_told}
use Rattle.mount_laws.proofs.Memory.{errors_differ}
use Rattle.mount_laws.proofs.Mounts.{GivesLater-same}
use Rattle.mount_laws.proofs.Sights.{LooksClaimed-node}
use Rattle.mount_laws.proofs.Sound.{IsSound}
use Rattle.mount_laws.proofs.Sources.{NodesFrom, NodesFrom-same, NodesFrom-told}

module _ (mount : MountModel) (is : IsMount mount) (path : List ℕ) (moment : ℕ) where
  later : IsPath path → (came : Made) → GivesLater mount (mknod.mount_after mount path moment came)
  later path_is (new meta) = GivesLater-made mount is path meta moment path_is
  later path_is exists = GivesLater-same mount is
  later path_is fault = GivesLater-same mount is

  leaves : (claimed : List Claim) → IsClaimed claimed (key.Name path) → (came : Made) → Keeps claimed mount (mknod.mount_after mount path moment came)
  leaves claimed name (new meta) = Keeps-table claimed mount _ (TableKeeps-granted claimed mount.table (new_node path meta moment) is.nodes name)
  leaves claimed name exists = Keeps-same claimed mount
  leaves claimed name fault = Keeps-same claimed mount

  counts : (config : Config) (number : ℕ) (came : Made)
      → lookups_of (mknod.mount_after mount path moment came).table number ≡ (lookups_of mount.table number + given (mknod.reply_to config mount path moment came) number) - 0
  counts config number (new meta) = counts_made mount is path meta moment number
  counts config number exists = omega arith
  counts config number fault = omega arith

module _ (mount : MountModel) (path : List ℕ) (moment : ℕ) where
  nodes : (Shown : List ℕ → ℕ → ℕ → Type 0) (came : Made) → ((meta : Metadata) → came ≡ new meta → Shown path meta.generation meta.size)
      → NodesFrom Shown mount.table (mknod.mount_after mount path moment came).table
  nodes Shown (new meta) shows = NodesFrom-told Shown mount.table mount.table.next (new_node path meta moment) (shows meta refl)
  nodes Shown exists shows = NodesFrom-same Shown mount.table
  nodes Shown fault shows = NodesFrom-same Shown mount.table

  agrees : mount.negotiated ≡ true → (came : Made) → (mknod.mount_after mount path moment came).negotiated ≡ true
  agrees agreed (new meta) = agreed
  agrees agreed exists = agreed
  agrees agreed fault = agreed

  pub mknod_staged : (came : Made) → (mknod.mount_after mount path moment came).staged ≡ mount.staged
  mknod_staged (new meta) = refl
  mknod_staged exists = refl
  mknod_staged fault = refl

  answered : (config : Config) (came : Made) → mknod.reply_to config mount path moment came ≢ Error enomem
  answered config (new meta) e = cc
  answered config exists e = let same : eexist ≡ enomem = cc in absurd (omega (arith, same))
  answered config fault e = let same : eio ≡ enomem = cc in absurd (omega (arith, same))

-- what such a request refuses has to be as much as CREATE does
module _ (node : ℕ) (name : List ℕ) (pairs : List Pair) (refusal : View → Option ℕ)
    (as_create : (view : View) → refusal view ≡ None → create.refusal name view ≡ None) (other : (view : View) → refusal view ≢ Some enomem) where
  pub making_sound : IsSound (mknod.making_rules node name pairs refusal) (λ number. 0) (Some 1)
  making_sound = record {
    later = λ at mount seen goes. later mount goes.is _ _ (HasPath-none mount node name goes.is (as_create _ goes.free)).is_path (making.made (answers_of seen));
    leaves = λ at mount seen goes. leaves mount goes.is _ _ _ (inr (inl refl)) (making.made (answers_of seen));
    sees = λ at mount goes asks. let has = HasPath-none mount node name goes.is (as_create _ goes.free) in LooksClaimed-node _ mount node has.sight has.seen (inl refl);
    covers = λ taken answers op allows. making_covers (create.path_of name taken.view) pairs taken.at.second answers node op allows;
    harmless = λ taken seen planned fits asks. making_harmless (create.path_of name taken.view) pairs taken.at.second seen asks;
    bounded = λ taken seen n is planned. making_asks_one (create.path_of name taken.view) pairs taken.at.second seen n is planned;
    reads = λ taken wanted wants_it. absurd (no_Some wants_it);
    of_files = λ mount wanted is wants_it. absurd (no_Some wants_it);
    agrees = λ taken mount seen agreed. agrees mount _ _ agreed (making.made (answers_of seen));
    refuses = other;
    keeps_staged = λ at mount seen errno free error. mknod_staged mount _ _ (making.made (answers_of seen));
    answers = λ taken mount seen. answered mount (create.path_of name taken.view) _ taken.at.config (making.made (answers_of seen));
    counts = λ at mount seen number other goes. counts mount goes.is _ _ at.config number (making.made (answers_of seen));
    nodes = λ Shown at mount seen goes tells. nodes mount _ _ Shown (making.made (answers_of seen)) (λ meta e. making_told _ pairs at.second Shown seen meta tells e);
  }

-- ---- MKNOD
regular : (b : Bool) (refusal : Option ℕ) → (if b then refusal else Some enosys) ≡ None → refusal ≡ None
regular true refusal free = free
regular false refusal free = absurd (let never : Some enosys ≡ None = free in cc)

-- one that isn't refused has a regular file's type
pub mknod_as_create : (mode : ℕ) (name : List ℕ) (view : View) → mknod.refusal mode name view ≡ None → create.refusal name view ≡ None
mknod_as_create mode name view free = regular (mknod.is_regular mode) (create.refusal name view) free

no_memory : (b : Bool) (refusal : Option ℕ) → refusal ≢ Some enomem → (if b then refusal else Some enosys) ≢ Some enomem
no_memory true refusal other e = other e
no_memory false refusal other e = errors_differ (λ same. absurd (omega (arith, same))) e

pub mknod_sound : (node mode : ℕ) (name : List ℕ) → IsSound (mknod.rules node mode name) (λ number. 0) (Some 1)
mknod_sound node mode name = making_sound node name _ (mknod.refusal mode name)
    (mknod_as_create mode name)
    (λ view. no_memory (mknod.is_regular mode) (create.refusal name view) (in_directory-memory view.node (part_refusal name) (part_refusal-memory name)))
