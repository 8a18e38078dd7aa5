-- What a flush leaves of the table, and what was prepared for it.
use Rattle.std.proofs.Common.{◌≡◌, ℕ, List, [], Option, Some, None, refl, sym, ap, subst}
use Rattle.std.specs.Prelude.{IsSome, IfSome, is_some}
use Rattle.std.specs.FinMap as fin
use Rattle.std.specs.Option.{option_map_or}
use Rattle.inode_spec.specs.Inodes.{file_of, with_file, with_inode}
use Rattle.mount_rules.specs.Mount.{File, IsMount, MountModel, Node, NodeTable}
use Rattle.mount_rules.specs.View.{Sight, sight_at}
use Rattle.spare_maps.proofs.FinMaps.{number_put_same}
use Rattle.staging_spec.specs.StagedFiles.{StagedContent}
use Rattle.mount_laws.proofs.Keeping.{no_Some, same_Some}
use Rattle.mount_state.specs.Spares.{Provided, flush_wants, name}

abbrev name_of : Provided → Option (List ℕ)
name_of (name text) = Some text
name_of provided = None

-- a name is prepared for a flush of staged content alone, and is that of its node
pub record IsFlush (mount : MountModel) (node : ℕ) (text : List ℕ) : Type 0 where
  pub staged : StagedContent
  pub there : fin.get mount.staged node ≡ Some staged
  pub named : text ≡ option_map_or (λ (file : Sight). file.name) (sight_at mount.table node) []

pub flush_of : (mount : MountModel) (node : ℕ) (text : List ℕ) → name text ≡ flush_wants (fin.get mount.staged node) (sight_at mount.table node) → IsFlush mount node text
flush_of mount node text wants = by (fin.get mount.staged node) refl wants
  where
    by : (found : Option StagedContent) → fin.get mount.staged node ≡ found → name text ≡ flush_wants found (sight_at mount.table node) → IsFlush mount node text
    by None is e = absurd (no_Some (sym (ap name_of e)))
    by (Some staged) is e = record { staged = staged; there = is; named = same_Some (ap name_of e) }

-- what is staged is staged of a file
pub flushed_file : (mount : MountModel) (node : ℕ) (text : List ℕ) → IsMount mount → IsFlush mount node text → IsSome (file_of mount.table node)
flushed_file mount node text valid is = ap is_some (valid.staged node is.staged is.there).there

module _ (table : NodeTable) (number : ℕ) where
  -- a file that is there shows another generation
  pub shown_file : (file : File) → IsSome (file_of table number)
      → option_map_or (λ (old : File). with_file table number file) (file_of table number) table ≡ with_file table number file
  shown_file file there = by (file_of table number) there
    where
      by : (found : Option File) → IsSome found → option_map_or (λ (old : File). with_file table number file) found table ≡ with_file table number file
      by None never = absurd cc
      by (Some old) there = refl

  -- and keeps its name
  pub name_stays : (file : File) (text : List ℕ) → IfSome (fin.get table.nodes number) (λ inode. text ≡ inode.name) → IfSome (fin.get (with_file table number file).nodes number) (λ inode. text ≡ inode.name)
  name_stays file text named = by (fin.get table.nodes number) refl named
    where
      by : (found : Option Node) → fin.get table.nodes number ≡ found → IfSome found (λ inode. text ≡ inode.name)
          → IfSome (fin.get (option_map_or (λ (inode : Node). with_inode table number (record inode { file = Some file })) found table).nodes number) (λ inode. text ≡ inode.name)
      by None is e = subst (λ (o : Option Node). IfSome o (λ inode. text ≡ inode.name)) (sym is) tt
      by (Some inode) is e =
          subst (λ (o : Option Node). IfSome o (λ inode. text ≡ inode.name)) (sym (number_put_same table.nodes number (record inode { file = Some file }))) e
