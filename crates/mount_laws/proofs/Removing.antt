-- Removing an object leaves the nodes as they are, and its name without a current one.
use Rattle.std.proofs.Common.{◌≡◌, ◌≢◌, ◌+◌, ◌-◌, ℕ, true, List, refl, arith}
use Rattle.claim_spec.specs.Conflicts.{IsClaimed}
use Rattle.claim_spec.specs.declared.claim.Claim.{Claim}
use Rattle.claim_spec.specs.declared.claim.ClaimKey.TheVariants as key
use Rattle.fuse_replies.specs.Errno.{eio, enoent, enomem}
use Rattle.fuse_replies.specs.declared.reply.Reply.TheVariants.{Error}
use Rattle.inode_spec.specs.Inodes.{detached, lookups_of}
use Rattle.mount_rules.specs.Laws.{GivesLater, Keeps, given}
use Rattle.mount_rules.specs.Mount.{IsMount, MountModel}
use Rattle.mount_rules.specs.Removing.{Removed, fault, gone, mount_after, nothing, reply_to, without_name}
use Rattle.mount_laws.proofs.Keeping.{TableKeeps-detached}
use Rattle.mount_laws.proofs.Leaving.{Keeps-same, Keeps-table}
use Rattle.mount_laws.proofs.Memory.{empty_answered}
use Rattle.mount_laws.proofs.Mounts.{GivesLater-same, GivesLater-table, IsNodeTable-of}
use Rattle.mount_laws.proofs.Sources.{NodesFrom, NodesFrom-same}
use Rattle.mount_laws.proofs.Staying.{FilesStay-same}
use Rattle.mount_laws.proofs.Tables.{TableLater-detached}

pub Keeps-unnamed : (claimed : List Claim) (mount : MountModel) (name : List ℕ) → IsClaimed claimed (key.Name name) → Keeps claimed mount (without_name mount name)
Keeps-unnamed claimed mount name named = Keeps-table claimed mount (detached mount.table name) (TableKeeps-detached claimed mount.table name named)

pub GivesLater-unnamed : (mount : MountModel) → IsMount mount → (name : List ℕ) → GivesLater mount (without_name mount name)
GivesLater-unnamed mount is name =
    GivesLater-table mount is (detached mount.table name) (TableLater-detached mount.table (IsNodeTable-of mount is) name) (FilesStay-same mount.table.nodes)

-- ---- by what came of it
module _ (mount : MountModel) (name : List ℕ) where
  pub removed_later : IsMount mount → (came : Removed) → GivesLater mount (mount_after mount name came)
  removed_later is gone = GivesLater-unnamed mount is name
  removed_later is nothing = GivesLater-same mount is
  removed_later is fault = GivesLater-same mount is

  pub removed_leaves : (claimed : List Claim) → IsClaimed claimed (key.Name name) → (came : Removed) → Keeps claimed mount (mount_after mount name came)
  removed_leaves claimed named gone = Keeps-unnamed claimed mount name named
  removed_leaves claimed named nothing = Keeps-same claimed mount
  removed_leaves claimed named fault = Keeps-same claimed mount

  pub removed_agrees : mount.negotiated ≡ true → (came : Removed) → (mount_after mount name came).negotiated ≡ true
  removed_agrees agreed gone = agreed
  removed_agrees agreed nothing = agreed
  removed_agrees agreed fault = agreed

  pub removed_staged : (came : Removed) → (mount_after mount name came).staged ≡ mount.staged
  removed_staged gone = refl
  removed_staged nothing = refl
  removed_staged fault = refl

  pub removed_counts : (number : ℕ) (came : Removed) → lookups_of (mount_after mount name came).table number ≡ (lookups_of mount.table number + given (reply_to came) number) - 0
  removed_counts number gone = omega arith
  removed_counts number nothing = omega arith
  removed_counts number fault = omega arith

  pub removed_nodes : (Shown : List ℕ → ℕ → ℕ → Type 0) (came : Removed) → NodesFrom Shown mount.table (mount_after mount name came).table
  removed_nodes Shown gone = NodesFrom-same Shown mount.table
  removed_nodes Shown nothing = NodesFrom-same Shown mount.table
  removed_nodes Shown fault = NodesFrom-same Shown mount.table

pub removed_answers : (came : Removed) → reply_to came ≢ Error enomem
removed_answers gone e = empty_answered e
removed_answers nothing e = let same : enoent ≡ enomem = cc in absurd (omega (arith, same))
removed_answers fault e = let same : eio ≡ enomem = cc in absurd (omega (arith, same))
