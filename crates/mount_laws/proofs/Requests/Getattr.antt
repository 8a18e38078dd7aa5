-- The rules of GETATTR are sound.
use Rattle.std.proofs.Common.{◌≡◌, ◌+◌, ◌-◌, ℕ, Option, Some, None, refl, subst, arith, inl, ◌≤◌, length}
use Rattle.std.specs.FinMap as fin
use Rattle.std.specs.Option.{option_map_or}
use Rattle.fuse_replies.specs.Errno.{eio, enomem, estale}
use Rattle.fuse_replies.specs.declared.reply.Reply.TheVariants.{Attr, Error}
use Rattle.inode_spec.specs.Inodes.{lookups_of}
use Rattle.mount_model.specs.declared.config.Config.{Config}
use Rattle.mount_rules.specs.Attributes.{attributes}
use Rattle.mount_rules.specs.Laws.{given}
use Rattle.mount_rules.specs.Mount.{MountModel, Node, NodeTable}
use Rattle.mount_rules.specs.Plans.{answers_of, last_moment}
use Rattle.mount_rules.specs.Requests.Getattr as getattr
use Rattle.mount_rules.specs.Standing as standing
use Rattle.mount_rules.specs.Standing.{Standing, fault, generation_seen, gone, live, unasked, table_after}
use Rattle.mount_rules.specs.View.{Sight}
use Rattle.mount_laws.proofs.Asking.{harmless_all}
use Rattle.mount_laws.proofs.Guarding.{on_live-memory, on_live-none}
use Rattle.mount_laws.proofs.Keeping.{no_Some}
use Rattle.mount_laws.proofs.Leaving.{Keeps-table}
use Rattle.mount_laws.proofs.Memory.{no_error}
use Rattle.mount_laws.proofs.Mounts.{GivesLater-table, IsNodeTable-of}
use Rattle.mount_laws.proofs.Sights.{LooksClaimed-file}
use Rattle.mount_laws.proofs.Sound.{IsSound}
use Rattle.mount_laws.proofs.Standing.{asks_name, asks_one, asks_stat, claims_name, claims_seen, standing_counts, standing_keeps, standing_later, standing_nodes, standing_stay}
use Rattle.staging_spec.specs.StagedFiles.{StagedFiles}

module _ (config : Config) (number : ℕ) where
  -- it is answered by attributes, or by one of two errors
  pub with_answers : (table : NodeTable) (staged : StagedFiles) (count : ℕ) → getattr.reply_with config table staged number count ≡ Error enomem → ⊥
  with_answers table staged count = by (fin.get table.nodes number)
    where
      by : (found : Option Node) → option_map_or (λ node. Attr (record (attributes config number node (fin.get staged number)) { nlink = count })) found (Error estale) ≡ Error enomem → ⊥
      by None e = let same : estale ≡ enomem = cc in absurd (omega (arith, same))
      by (Some node) e = cc

  pub attr_answers : (mount : MountModel) (moment : ℕ) (found : Standing) → getattr.reply_to config mount number moment found ≡ Error enomem → ⊥
  attr_answers mount moment unasked = with_answers mount.table mount.staged 1
  attr_answers mount moment (live meta) = with_answers (table_after mount.table number moment (live meta)) mount.staged 1
  attr_answers mount moment gone = with_answers mount.table mount.staged (getattr.links mount.table number moment gone)
  attr_answers mount moment fault = λ e. let same : eio ≡ enomem = cc in absurd (omega (arith, same))

  -- which give no look-up
  pub with_gives : (table : NodeTable) (staged : StagedFiles) (count k : ℕ) → given (getattr.reply_with config table staged number count) k ≡ 0
  with_gives table staged count k = by (fin.get table.nodes number)
    where
      by : (found : Option Node) → given (option_map_or (λ node. Attr (record (attributes config number node (fin.get staged number)) { nlink = count })) found (Error estale)) k ≡ 0
      by None = refl
      by (Some node) = refl

  pub attr_gives : (mount : MountModel) (moment k : ℕ) (found : Standing) → given (getattr.reply_to config mount number moment found) k ≡ 0
  attr_gives mount moment k unasked = with_gives mount.table mount.staged 1 k
  attr_gives mount moment k (live meta) = with_gives (table_after mount.table number moment (live meta)) mount.staged 1 k
  attr_gives mount moment k gone = with_gives mount.table mount.staged (getattr.links mount.table number moment gone) k
  attr_gives mount moment k fault = refl

  counts : (mount : MountModel) (moment k : ℕ) (found : Standing)
      → lookups_of (table_after mount.table number moment found) k ≡ (lookups_of mount.table k + given (getattr.reply_to config mount number moment found) k) - 0
  counts mount moment k found = let same = standing_counts mount.table number moment k found in let none = attr_gives mount moment k found in omega (arith, same, none)

pub getattr_sound : (node : ℕ) → IsSound (getattr.rules node) (λ number. 0) (Some 1)
getattr_sound node = record {
  later = λ at mount seen goes. GivesLater-table mount goes.is _ (standing_later mount.table node _ (IsNodeTable-of mount goes.is) _) (standing_stay mount.table node _ _);
  leaves = λ at mount seen goes. Keeps-table _ mount _ (standing_keeps mount.table node _ _ (claims_name mount node) _);
  sees = λ at mount goes asks. let s = on_live-none _ (λ (sight : Sight). None) goes.free in LooksClaimed-file _ mount node s.sight s.is (inl refl);
  covers = λ taken told op allows. asks_name (standing.claims node taken.view) taken.view (claims_seen node taken.view) told op allows;
  harmless = λ taken seen planned fits asks. harmless_all _ (asks_stat (standing.asked_name taken.view)) seen planned;
  bounded = λ taken seen n is planned. let one : 1 ≡ n = cc in subst (λ m. length seen ≤ m) one (asks_one (standing.asked_name taken.view) seen planned);
  reads = λ taken wanted wants_it. absurd (no_Some wants_it);
  of_files = λ mount wanted is wants_it. absurd (no_Some wants_it);
  agrees = λ taken mount seen agreed. agreed;
  refuses = λ view. on_live-memory view.node (λ sight. None) (λ sight. no_error);
  keeps_staged = λ at mount seen errno free error. refl;
  answers = λ taken mount seen. attr_answers taken.at.config node mount (last_moment seen) (standing.standing (generation_seen taken.view.node) (answers_of seen));
  counts = λ at mount seen number other goes. counts at.config node mount _ number _;
  nodes = λ Shown at mount seen goes tells. standing_nodes mount.table node _ Shown _;
}
