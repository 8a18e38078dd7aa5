-- The rules of OPEN are sound.
use Rattle.std.proofs.Common.{◌≡◌, ◌+◌, ◌-◌, ℕ, true, List, Some, None, refl, subst, arith, inl, ◌≤◌, length}
use Rattle.std.specs.FinMap as fin
use Rattle.claim_spec.specs.Conflicts.{IsClaimed}
use Rattle.claim_spec.specs.declared.claim.Claim.{Claim}
use Rattle.claim_spec.specs.declared.claim.ClaimKey.TheVariants as key
use Rattle.fuse_replies.specs.Errno.{eio, enomem, estale}
use Rattle.fuse_replies.specs.declared.reply.Reply.TheVariants.{Error}
use Rattle.inode_spec.specs.Inodes.{lookups_of}
use Rattle.mount_rules.specs.Laws.{GivesLater, Keeps, given}
use Rattle.mount_rules.specs.Mount.{IsMount, MountModel, Node, NodeTable}
use Rattle.mount_rules.specs.Plans.{answers_of}
use Rattle.mount_rules.specs.Requests.Open as open_file
use Rattle.mount_rules.specs.Standing as standing
use Rattle.mount_rules.specs.Standing.{Standing, fault, generation_seen, gone, live, unasked, table_after}
use Rattle.mount_rules.specs.View.{Sight}
use Rattle.mount_laws.proofs.Asking.{harmless_all}
use Rattle.mount_laws.proofs.Guarding.{in_file-memory, in_file-none}
use Rattle.mount_laws.proofs.Keeping.{no_Some}
use Rattle.mount_laws.proofs.Leaving.{Keeps-opened, Keeps-same}
use Rattle.mount_laws.proofs.Memory.{no_error}
use Rattle.mount_laws.proofs.Mounts.{GivesLater-opened, GivesLater-same, GivesLater-table, GivesLater-then, IsNodeTable-of}
use Rattle.mount_laws.proofs.Sights.{LooksClaimed-file}
use Rattle.mount_laws.proofs.Sound.{IsSound}
use Rattle.mount_laws.proofs.Sources.{NodesFrom, NodesFrom-same}
use Rattle.mount_laws.proofs.Standing.{asks_name, asks_one, asks_stat, claims_name, claims_seen, standing_counts, standing_keeps, standing_later, standing_nodes, standing_stay}
use Rattle.mount_laws.proofs.Staying.{FilesStay}
use Rattle.mount_laws.proofs.Tables.{TableLater}

module _ (mount : MountModel) (node moment : ℕ) where
  module _ (is : IsMount mount) where
    opened_later : (table : NodeTable) → TableLater mount.table table → FilesStay mount.table.nodes table.nodes → GivesLater mount (open_file.with_handle node mount table)
    opened_later table later stay = let changed = GivesLater-table mount is table later stay in GivesLater-then changed (GivesLater-opened _ changed.is (record { node = node; items = None }))

    later : (found : Standing) → GivesLater mount (open_file.mount_after node mount moment found)
    later unasked = GivesLater-opened mount is (record { node = node; items = None })
    later (live meta) = opened_later _ (standing_later mount.table node moment (IsNodeTable-of mount is) (live meta)) (standing_stay mount.table node moment (live meta))
    later gone = GivesLater-same mount is
    later fault = GivesLater-same mount is

    leaves : (claimed : List Claim) → ((x : Node) → fin.get mount.table.nodes node ≡ Some x → IsClaimed claimed (key.Name x.name)) → (found : Standing)
        → Keeps claimed mount (open_file.mount_after node mount moment found)
    leaves claimed named found = by found
      where
        opened : (told : Standing) → Keeps claimed mount (open_file.with_handle node mount (table_after mount.table node moment told))
        opened told = Keeps-opened claimed mount is _ (standing_keeps mount.table node moment claimed named told) (record { node = node; items = None })

        by : (found : Standing) → Keeps claimed mount (open_file.mount_after node mount moment found)
        by unasked = opened unasked
        by (live meta) = opened (live meta)
        by gone = Keeps-same claimed mount
        by fault = Keeps-same claimed mount

  counts : (k : ℕ) (found : Standing) → lookups_of (open_file.mount_after node mount moment found).table k ≡ (lookups_of mount.table k + given (open_file.reply_to mount found) k) - 0
  counts k unasked = omega arith
  counts k (live meta) = let same = standing_counts mount.table node moment k (live meta) in omega (arith, same)
  counts k gone = omega arith
  counts k fault = omega arith

  nodes : (Shown : List ℕ → ℕ → ℕ → Type 0) (found : Standing) → NodesFrom Shown mount.table (open_file.mount_after node mount moment found).table
  nodes Shown unasked = NodesFrom-same Shown mount.table
  nodes Shown (live meta) = standing_nodes mount.table node moment Shown (live meta)
  nodes Shown gone = NodesFrom-same Shown mount.table
  nodes Shown fault = NodesFrom-same Shown mount.table

  keeps_staged : (found : Standing) → (open_file.mount_after node mount moment found).staged ≡ mount.staged
  keeps_staged unasked = refl
  keeps_staged (live meta) = refl
  keeps_staged gone = refl
  keeps_staged fault = refl

  agrees : mount.negotiated ≡ true → (found : Standing) → (open_file.mount_after node mount moment found).negotiated ≡ true
  agrees agreed unasked = agreed
  agrees agreed (live meta) = agreed
  agrees agreed gone = agreed
  agrees agreed fault = agreed

-- it is answered by a handle, or by one of two errors
answers : (mount : MountModel) (found : Standing) → open_file.reply_to mount found ≡ Error enomem → ⊥
answers mount unasked e = cc
answers mount (live meta) e = cc
answers mount gone e = let same : estale ≡ enomem = cc in absurd (omega (arith, same))
answers mount fault e = let same : eio ≡ enomem = cc in absurd (omega (arith, same))

pub open_sound : (node : ℕ) → IsSound (open_file.rules node) (λ number. 0) (Some 1)
open_sound node = record {
  later = λ at mount seen goes. later mount node _ goes.is _;
  leaves = λ at mount seen goes. leaves mount node _ goes.is _ (claims_name mount node) _;
  sees = λ at mount goes asks. let s = in_file-none _ (λ (sight : Sight). None) goes.free in LooksClaimed-file _ mount node s.sight s.is (inl refl);
  covers = λ taken told op allows. asks_name (standing.claims node taken.view) taken.view (claims_seen node taken.view) told op allows;
  harmless = λ taken seen planned fits asks. harmless_all _ (asks_stat (standing.asked_name taken.view)) seen planned;
  bounded = λ taken seen n is planned. let one : 1 ≡ n = cc in subst (λ m. length seen ≤ m) one (asks_one (standing.asked_name taken.view) seen planned);
  reads = λ taken wanted wants_it. absurd (no_Some wants_it);
  of_files = λ mount wanted is wants_it. absurd (no_Some wants_it);
  agrees = λ taken mount seen agreed. agrees mount node _ agreed _;
  refuses = λ view. in_file-memory view.node (λ sight. None) (λ sight. no_error);
  keeps_staged = λ at mount seen errno free error. keeps_staged mount node _ _;
  answers = λ taken mount seen. answers mount (standing.standing (generation_seen taken.view.node) (answers_of seen));
  counts = λ at mount seen number other goes. counts mount node _ number _;
  nodes = λ Shown at mount seen goes tells. nodes mount node _ Shown _;
}
