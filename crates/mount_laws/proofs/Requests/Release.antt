-- The rules of RELEASE are sound.
use Rattle.std.proofs.Common.{◌≡◌, ℕ, [], ◌∷◌, Some, None, refl, sym, subst, arith, inl}
use Rattle.std.specs.FinMap as fin
use Rattle.claim_spec.specs.Conflicts.{IsOwned}
use Rattle.claim_spec.specs.declared.claim.ClaimKey.TheVariants as key
use Rattle.inode_spec.proofs.Cases.{on_test}
use Rattle.inode_spec.specs.Inodes.{let_go, lookups_of}
use Rattle.mount_rules.specs.Claiming.{owns_node}
use Rattle.mount_rules.specs.Mount.{MountModel, NodeTable}
use Rattle.mount_rules.specs.Plans.{done}
use Rattle.mount_rules.specs.Requests.Forget.{is_held}
use Rattle.mount_rules.specs.Requests.Release as release
use Rattle.mount_rules.specs.Rules.{at_handle}
use Rattle.mount_rules.specs.View.{view_of}
use Rattle.mount_laws.proofs.Asking.{asks_none, at_most_none}
use Rattle.mount_laws.proofs.Counting.{counts_let_go}
use Rattle.mount_laws.proofs.Guarding.{on_open_file-memory, on_open_file-none}
use Rattle.mount_laws.proofs.Keeping.{TableKeeps, TableKeeps-let_go, TableKeeps-same, no_Some}
use Rattle.mount_laws.proofs.Leaving.{Keeps-left, Keeps-released, Keeps-then}
use Rattle.mount_laws.proofs.Memory.{empty_answered, empty_is_none, no_error}
use Rattle.mount_laws.proofs.Mounts.{GivesLater-left, GivesLater-released, GivesLater-then, IsNodeTable-of}
use Rattle.mount_laws.proofs.Sound.{IsSound}
use Rattle.mount_laws.proofs.Sources.{NodesFrom-stay, NodesStay, NodesStay-let_go, NodesStay-same}
use Rattle.mount_laws.proofs.Staying.{FilesLeft, FilesLeft-let_go, FilesLeft-stay, FilesStay-same}
use Rattle.mount_laws.proofs.Tables.{TableLater, TableLater-let_go, TableLater-same}

-- what holds of the nodes, and of them where the node is let go, holds of those that are left
on_left : (mount : MountModel) (node fh : ℕ) (P : NodeTable → Type 0) → P mount.table → P (let_go mount.table node) → P (release.left_by (fin.remove mount.handles fh) node mount.table)
on_left mount node fh P stays goes = on_test P (is_held (fin.remove mount.handles fh) node) _ _ (λ held. stays) (λ free. goes)

-- each of them was there
pub released_stay : (mount : MountModel) (node fh : ℕ) → NodesStay mount.table (release.left_by (fin.remove mount.handles fh) node mount.table)
released_stay mount node fh = on_left mount node fh (NodesStay mount.table) (NodesStay-same mount.table) (NodesStay-let_go mount.table node)

pub release_sound : (node fh : ℕ) → IsSound (release.rules node fh) (λ number. 0) (Some 0)
release_sound node fh = record {
  later = λ at mount seen goes.
      let nodes = IsNodeTable-of mount goes.is in
      let left = GivesLater-left mount goes.is node _
      (on_left mount node fh (TableLater mount.table) (TableLater-same mount.table nodes) (TableLater-let_go mount.table nodes node))
      (on_left mount node fh (λ (table : NodeTable). FilesLeft node mount.table.nodes table.nodes)
      (FilesLeft-stay mount.table.nodes node mount.table.nodes (FilesStay-same mount.table.nodes)) (FilesLeft-let_go mount.table node)) in
      GivesLater-then left (GivesLater-released _ left.is fh);
  leaves = λ at mount seen goes.
      let s = on_open_file-none node (view_of mount (at_handle node fh)) (λ file. None) goes.free in
      let owned : IsOwned (owns_node node ∷ []) (key.Node node) = inl (refl, refl) in
      Keeps-then (owns_node node ∷ []) mount (record mount { handles = fin.remove mount.handles fh }) (release.after node fh mount)
      (Keeps-released _ mount fh s.handle s.is (subst (λ n. IsOwned (owns_node node ∷ []) (key.Node n)) (sym s.node_is) owned))
      (Keeps-left _ (record mount { handles = fin.remove mount.handles fh }) (GivesLater-released mount goes.is fh).is node _
      (on_left mount node fh (TableKeeps (owns_node node ∷ []) mount.table) (TableKeeps-same _ mount.table) (TableKeeps-let_go _ mount.table node owned)));
  sees = λ at mount goes asks. absurd (asks refl);
  covers = λ taken told op allows. absurd allows;
  harmless = λ taken seen planned fits asks. absurd (asks refl);
  bounded = λ taken seen n is planned. at_most_none seen n is (asks_none (λ answers. done) refl seen planned);
  reads = λ taken wanted wants_it. absurd (no_Some wants_it);
  of_files = λ mount wanted is wants_it. absurd (no_Some wants_it);
  agrees = λ taken mount seen agreed. agreed;
  refuses = λ view. on_open_file-memory node view _ (λ file. no_error);
  keeps_staged = λ at mount seen errno free error. absurd (empty_is_none errno error);
  answers = λ taken mount seen. empty_answered;
  counts = λ at mount seen number other goes.
      let same = on_left mount node fh (λ (table : NodeTable). lookups_of table number ≡ lookups_of mount.table number) refl (counts_let_go mount.table number node) in
      omega (arith, same);
  nodes = λ Shown at mount seen goes tells. NodesFrom-stay Shown mount.table (release.after node fh mount).table (released_stay mount node fh);
}
