-- A file that shows a new generation, as after a FLUSH: what that leaves of the table of nodes.
use Rattle.std.proofs.Common.{◌≡◌, ℕ, true, false, List, Option, Some, refl, sym, ap, subst, ◌∙◌}
use Rattle.std.specs.FinMap as fin
use Rattle.std.specs.Option.{option_map_or}
use Rattle.bucket_api.specs.Metadata.{Metadata}
use Rattle.claim_spec.specs.Conflicts.{IsClaimed, IsOwned}
use Rattle.claim_spec.specs.declared.claim.Claim.{Claim}
use Rattle.claim_spec.specs.declared.claim.ClaimKey.TheVariants as key
use Rattle.inode_spec.proofs.Cases.{on_test, where_kept}
use Rattle.inode_spec.specs.Inodes.{is_live, lookups_of, made_current, with_inode}
use Rattle.mount_rules.specs.Guards.{is_directory}
use Rattle.mount_rules.specs.Mount.{File, IsKeptOf, Node, NodeTable}
use Rattle.mount_rules.specs.Requests.Flush.{made_current_if_live, table_with}
use Rattle.mount_rules.specs.Showing.{file_shown}
use Rattle.object_names.specs.declared.shown.NodeKind.{NodeKind}
use Rattle.object_names.specs.declared.shown.NodeKind.TheVariants.{Dir, File as RegularFile, Symlink}
use Rattle.spare_maps.proofs.FinMaps.{number_put_same}
use Rattle.mount_laws.proofs.Counting.{count_of, counts_put}
use Rattle.mount_laws.proofs.Keeping.{TableKeeps, TableKeeps-current, TableKeeps-owned}
use Rattle.mount_laws.proofs.Sources.{NodesFrom, NodesFrom-told}
use Rattle.mount_laws.proofs.Staying.{OthersStay, others-put}
use Rattle.mount_laws.proofs.Tables.{IsNodeTable, TableLater, TableLater-current, TableLater-then, TableLater-written}

-- something is kept of what is no directory
kept_of : (kind : NodeKind) (file : File) → is_directory kind ≡ false → IsKeptOf kind (Some file)
kept_of Dir file never = absurd cc
kept_of RegularFile file other = refl
kept_of Symlink file other = refl

-- the node that is there shows another generation
module _ (table : NodeTable) (number : ℕ) (meta : Metadata) (moment : ℕ) (node : Node) (there : fin.get table.nodes number ≡ Some node) where
  abbrev shows : Node
  shows = record node { file = Some (file_shown meta moment) }

  abbrev told_table : NodeTable
  told_table = with_inode table number shows

  table_is : table_with table number meta moment ≡ made_current_if_live told_table number shows
  table_is =
      ap (λ (t : NodeTable). option_map_or (λ (n : Node). made_current_if_live t number n) (fin.get t.nodes number) t)
      (ap (λ (found : Option Node). option_map_or (λ (n : Node). with_inode table number (record n { file = Some (file_shown meta moment) })) found table) there)
      ∙ ap (λ (found : Option Node). option_map_or (λ (n : Node). made_current_if_live told_table number n) found told_table) (number_put_same table.nodes number shows)

  -- what holds of the nodes with it, and of them with it the current one of its name, holds of them afterwards
  on_shown : (P : NodeTable → Type 0) → P told_table → (is_live number shows ≡ true → P (made_current told_table number node.name)) → P (table_with table number meta moment)
  on_shown P same current = subst P (sym table_is) (on_test P (is_live number shows) _ _ current (λ idle. same))

  pub generation_later : IsNodeTable table → is_directory node.kind ≡ false → TableLater table (table_with table number meta moment)
  generation_later is file = on_shown (TableLater table) told_later
      (λ live. TableLater-then told_later (TableLater-current told_table told_later.is number shows (number_put_same table.nodes number shows) live))
    where
      told_later : TableLater table told_table
      told_later = TableLater-written table is number node shows there refl refl (kept_of node.kind (file_shown meta moment) file) (λ was. was)

  pub generation_others : OthersStay number table.nodes (table_with table number meta moment).nodes
  generation_others = on_shown (λ (t : NodeTable). OthersStay number table.nodes t.nodes) (others-put table.nodes number shows) (λ live. others-put table.nodes number shows)

  pub generation_keeps : (claimed : List Claim) → IsOwned claimed (key.Node number) → IsClaimed claimed (key.Name node.name) → TableKeeps claimed table (table_with table number meta moment)
  generation_keeps claimed owned named = on_shown (TableKeeps claimed table) (TableKeeps-owned claimed table number owned shows)
      (λ live. TableKeeps-current claimed table number owned shows node.name named)

  pub generation_counts : (k : ℕ) → lookups_of (table_with table number meta moment) k ≡ lookups_of table k
  generation_counts k = on_shown (λ (t : NodeTable). lookups_of t k ≡ lookups_of table k) same (λ live. same)
    where
      same : lookups_of told_table k ≡ lookups_of table k
      same = counts_put table k number shows ∙ where_kept k number node.lookups (lookups_of table k) (λ one. sym (ap (lookups_of table) one ∙ ap count_of there))

  pub generation_nodes : (Shown : List ℕ → ℕ → ℕ → Type 0) → Shown node.name meta.generation meta.size → NodesFrom Shown table (table_with table number meta moment)
  generation_nodes Shown shown = on_shown (NodesFrom Shown table) (NodesFrom-told Shown table number shows shown) (λ live. NodesFrom-told Shown table number shows shown)
