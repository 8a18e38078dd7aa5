-- What GETATTR and OPEN share: the bucket is asked how the generation stands that a node shows, and the node keeps what it
-- is told.
use Rattle.std.proofs.Common.{◌≡◌, ◌≤◌, ℕ, Bool, true, false, List, [], ◌∷◌, Option, Some, None, refl, sym, ap, subst, ◌∙◌, inl, inr, length, arith, option_map}
use Rattle.std.specs.Prelude.{if◌then◌else◌, option_and_then}
use Rattle.std.specs.FinMap as fin
use Rattle.std.specs.Option.{option_map_or}
use Rattle.bucket_api.specs.Metadata.{Metadata}
use Rattle.bucket_api.specs.Operation.{Operation}
use Rattle.bucket_api.specs.declared.answers.Answer.{Answer}
use Rattle.claim_spec.specs.Conflicts.{IsClaimed}
use Rattle.claim_spec.specs.declared.claim.Claim.{Claim}
use Rattle.claim_spec.specs.declared.claim.ClaimKey.TheVariants as key
use Rattle.inode_spec.proofs.Cases.{where_kept}
use Rattle.inode_spec.specs.Inodes.{lookups_of, with_inode}
use Rattle.mount_model.specs.Observing.{Observed}
use Rattle.mount_rules.specs.Guards.{is_directory}
use Rattle.mount_rules.specs.Laws.{IsCovered, Planned}
use Rattle.mount_rules.specs.Mount.{File, MountModel, Node, NodeTable}
use Rattle.mount_rules.specs.Plans.{Allows, IsHarmless}
use Rattle.mount_rules.specs.Rules.{at_file}
use Rattle.mount_rules.specs.Showing.{refreshed}
use Rattle.mount_rules.specs.Standing as standing
use Rattle.mount_rules.specs.Standing.{Standing, fault, gone, live, name_of, table_after, unasked}
use Rattle.mount_rules.specs.View.{Sight, View, sight_at, sight_of, view_of}
use Rattle.mount_laws.proofs.Counting.{count_of, counts_put}
use Rattle.mount_laws.proofs.Keeping.{TableKeeps, TableKeeps-same, TableKeeps-written}
use Rattle.mount_laws.proofs.Showings.{IsSameNode-refreshed, refreshed-seen}
use Rattle.mount_laws.proofs.Sources.{NodesFrom, NodesFrom-stay, NodesStay, NodesStay-put, NodesStay-same}
use Rattle.mount_laws.proofs.Staying.{FilesStay, FilesStay-put, FilesStay-same}
use Rattle.mount_laws.proofs.Tables.{IsKeptOf-same, IsNodeTable, TableLater, TableLater-same, TableLater-written}
use Rattle.staging_spec.specs.StagedFiles.{StagedContent}

-- ---- what is asked
-- the one operation is the stat of the node's name, which is claimed
pub asks_name : (claimed : List Claim) (view : View) → ((sight : Sight) → view.node ≡ Some sight → IsClaimed claimed (key.Name sight.name))
    → (told : List Answer) (op : Operation) → Allows (standing.plan (standing.asked_name view) told) op → IsCovered claimed op
asks_name claimed view named told op = by view.node refl view.staged told
  where
    kinds : (sight : Sight) → IsClaimed claimed (key.Name sight.name) → (directory : Bool) (told : List Answer)
        → Allows (standing.plan (if directory then None else Some sight.name) told) op → IsCovered claimed op
    kinds sight name true told allows = absurd allows
    kinds sight name false [] allows = subst (IsCovered claimed) (sym allows) name
    kinds sight name false (a ∷ more) allows = absurd allows

    by : (seen : Option Sight) → view.node ≡ seen → (staged : Option StagedContent) (told : List Answer)
        → Allows (standing.plan (option_and_then (name_of staged) seen) told) op → IsCovered claimed op
    by None is staged told allows = absurd allows
    by (Some sight) is (Some s) told allows = absurd allows
    by (Some sight) is None told allows = kinds sight (named sight is) (is_directory sight.kind) told allows

-- the name of a node that is seen, as requests claim it
abbrev pub name_seen : Option Sight → List ℕ
name_seen seen = option_map_or (λ (sight : Sight). sight.name) seen []

pub asks_stat : (name : Option (List ℕ)) (told : List Answer) (op : Operation) → Allows (standing.plan name told) op → IsHarmless op
asks_stat None told op allows = absurd allows
asks_stat (Some name) [] op allows = subst IsHarmless (sym allows) tt
asks_stat (Some name) (a ∷ more) op allows = absurd allows

pub asks_one : (name : Option (List ℕ)) (seen : List Observed) → Planned (standing.plan name) seen → length seen ≤ 1
asks_one None [] planned = omega arith
asks_one None (o ∷ more) planned = absurd planned.0
asks_one (Some name) [] planned = omega arith
asks_one (Some name) (o ∷ []) planned = omega arith
asks_one (Some name) (o ∷ p ∷ more) planned = absurd planned.1.0

-- the name of the node that is there is claimed
pub claims_seen : (node : ℕ) (view : View) (sight : Sight) → view.node ≡ Some sight → IsClaimed (standing.claims node view) (key.Name sight.name)
claims_seen node view sight is = inr (inl (ap (λ seen. key.Name (name_seen seen)) is))

pub name_there : (mount : MountModel) (number : ℕ) (node : Node) → fin.get mount.table.nodes number ≡ Some node → name_seen (sight_at mount.table number) ≡ node.name
name_there mount number node there = ap (λ (found : Option Node). name_seen (option_map (sight_of number) found)) there

pub claims_name : (mount : MountModel) (number : ℕ) (node : Node) → fin.get mount.table.nodes number ≡ Some node
    → IsClaimed (standing.claims number (view_of mount (at_file number))) (key.Name node.name)
claims_name mount number node there = inr (inl (ap key.Name (name_there mount number node there)))

-- ---- what is kept
module _ (table : NodeTable) (number moment : ℕ) where
  -- what holds of the nodes as they were, and of them with the node's file refreshed, holds of them afterwards
  on_refreshed : (P : NodeTable → Type 0) → P table
      → ((meta : Metadata) (node : Node) (file : File) → fin.get table.nodes number ≡ Some node → node.file ≡ Some file
      → P (with_inode table number (record node { file = Some (refreshed meta moment file) })))
      → (found : Standing) → P (table_after table number moment found)
  on_refreshed P same written unasked = same
  on_refreshed P same written (live meta) = by (fin.get table.nodes number) refl
    where
      on : (node : Node) → fin.get table.nodes number ≡ Some node → (file : Option File) → node.file ≡ file
          → P (option_map_or (λ (f : File). with_inode table number (record node { file = Some (refreshed meta moment f) })) file table)
      on node there None has = same
      on node there (Some file) has = written meta node file there has

      by : (found : Option Node) → fin.get table.nodes number ≡ found
          → P (option_map_or (λ (f : File). option_map_or (λ (node : Node). with_inode table number (record node { file = Some (refreshed meta moment f) })) found table)
          (option_and_then (λ (node : Node). node.file) found) table)
      by None there = same
      by (Some node) there = on node there node.file refl
  on_refreshed P same written gone = same
  on_refreshed P same written fault = same

  -- the table is one, and no number is given again
  pub standing_later : IsNodeTable table → (found : Standing) → TableLater table (table_after table number moment found)
  standing_later is = on_refreshed (TableLater table) (TableLater-same table is)
      (λ meta node file there has. TableLater-written table is number node (record node { file = Some (refreshed meta moment file) }) there refl refl
      (IsKeptOf-same node (record node { file = Some (refreshed meta moment file) }) (IsSameNode-refreshed meta moment node file has) (is.files number node there)) (λ was. was))

  -- each file stays
  pub standing_stay : (found : Standing) → FilesStay table.nodes (table_after table number moment found).nodes
  standing_stay = on_refreshed (λ (after : NodeTable). FilesStay table.nodes after.nodes) (FilesStay-same table.nodes)
      (λ meta node file there has. FilesStay-put table.nodes number node (record node { file = Some (refreshed meta moment file) }) there
      (IsSameNode-refreshed meta moment node file has).shown)

  -- others see the same, but for the name
  pub standing_keeps : (claimed : List Claim) → ((node : Node) → fin.get table.nodes number ≡ Some node → IsClaimed claimed (key.Name node.name))
      → (found : Standing) → TableKeeps claimed table (table_after table number moment found)
  standing_keeps claimed named = on_refreshed (TableKeeps claimed table) (TableKeeps-same claimed table)
      (λ meta node file there has. TableKeeps-written claimed table number node (record node { file = Some (refreshed meta moment file) }) there
      (refreshed-seen meta moment node file has number) (named node there))

  -- look-ups stay
  pub standing_counts : (k : ℕ) (found : Standing) → lookups_of (table_after table number moment found) k ≡ lookups_of table k
  standing_counts k = on_refreshed (λ (after : NodeTable). lookups_of after k ≡ lookups_of table k) refl
      (λ meta node file there has. counts_put table k number (record node { file = Some (refreshed meta moment file) })
      ∙ where_kept k number node.lookups (lookups_of table k) (λ same. sym (ap (lookups_of table) same ∙ ap count_of there)))

  -- each node was there
  pub standing_nodes_stay : (found : Standing) → NodesStay table (table_after table number moment found)
  standing_nodes_stay = on_refreshed (NodesStay table) (NodesStay-same table)
      (λ meta node file there has. NodesStay-put table number node (record node { file = Some (refreshed meta moment file) }) there (IsSameNode-refreshed meta moment node file has))

  pub standing_nodes : (Shown : List ℕ → ℕ → ℕ → Type 0) (found : Standing) → NodesFrom Shown table (table_after table number moment found)
  standing_nodes Shown found = NodesFrom-stay Shown table (table_after table number moment found) (standing_nodes_stay found)
