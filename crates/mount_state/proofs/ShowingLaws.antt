-- Which node a name is shown by, step by step as the code goes: the current node is found, is written anew, and is looked
-- up once more.
use Rattle.std.proofs.Common.{◌≡◌, ℕ, Bool, true, false, cond, List, Option, Some, None, refl, sym, ap, subst, ◌∙◌, nat_eq, nat_cmp}
use Rattle.std.specs.Prelude.{if◌then◌else◌, option_and_then, option_map, is_some, IsSome, IfSome}
use Rattle.std.specs.Cmp.{nat_cmp_total}
use Rattle.std.specs.FinMap as fin
use Rattle.std.specs.Option.{option_map_or}
use Rattle.bucket_api.specs.Metadata.{Metadata}
use Rattle.fuse_replies.specs.declared.reply.EntryOut.{EntryOut}
use Rattle.inode_spec.specs.Inodes.{file_of, granted, looked, looked_up, with_file, with_inode}
use Rattle.mount_model.specs.declared.config.Config.{Config}
use Rattle.mount_rules.specs.Attributes.{entry_of}
use Rattle.mount_rules.specs.Mount.{File, MountModel, Node, NodeTable}
use Rattle.mount_rules.specs.Requests.Lookup.{object_entry}
use Rattle.mount_rules.specs.Showing.{Numbered, after_directory, after_showing, current_shown, directory_again, directory_by, new_directory, new_node, number_shown, object_again, refreshed, shown_by, shown_or_new, stands_for, with_shown_or_new}
use Rattle.mount_laws.proofs.Keeping.{no_Some, same_Some}
use Rattle.spare_maps.proofs.FinMaps.{get-insert_number, number_put_same}
use Rattle.staging_spec.specs.StagedFiles.{StagedContent}

-- what is put last under a number is there
pub put_twice : {X : Type 0} (m : fin.FinMap nat_cmp X) (k : ℕ) (a b : X) → fin.insert (fin.insert m k a) k b ≡ fin.insert m k b
put_twice {X} m k a b = fin.same_map nat_cmp_total fin.nat_cmp-IsAntisymmetric _ _ (λ q.
    get-insert_number (fin.insert m k a) k b q
    ∙ ap (λ o. cond (nat_eq q k) (Some b) o) (get-insert_number m k a q)
    ∙ over (nat_eq q k) (fin.get m q)
    ∙ sym (get-insert_number m k b q))
  where
    over : (t : Bool) (o : Option X) → cond t (Some b) (cond t (Some a) o) ≡ cond t (Some b) o
    over true o = refl
    over false o = refl

-- a name is shown again by the node of a number, as another one
pub record IsShownAgain (again : Node → Option Node) (table : NodeTable) (name : List ℕ) (number : ℕ) : Type 0 where
  pub node : Node
  pub shown : Node
  pub there : fin.get table.nodes number ≡ Some node
  pub turned : again node ≡ Some shown
  pub found : current_shown again table name ≡ Some (record { number = number; node = shown })

module _ (again : Node → Option Node) (table : NodeTable) (name : List ℕ) where
  IsShownAgain-shown : (shown : Numbered) → current_shown again table name ≡ Some shown → IsShownAgain again table name shown.number
  IsShownAgain-shown shown whole = at (fin.get table.current name) whole
    where
      under : (number : ℕ) (node : Node) (new : Option Node) → fin.get table.nodes number ≡ Some node → again node ≡ new
          → option_and_then (λ (n : Node). Some (record { number = number; node = n })) new ≡ Some shown → IsShownAgain again table name shown.number
      under number node None there is e = absurd (no_Some e)
      under number node (Some new) there is e =
          let one : record { number = number; node = new } ≡ shown = same_Some e in
          record {
            node = node;
            shown = shown.node;
            there = subst (λ (s : Numbered). fin.get table.nodes s.number ≡ Some node) one there;
            turned = subst (λ (s : Numbered). again node ≡ Some s.node) one is;
            found = whole;
          }

      found_at : (number : ℕ) (found : Option Node) → fin.get table.nodes number ≡ found
          → option_and_then (λ (node : Node). option_and_then (λ (n : Node). Some (record { number = number; node = n })) (again node)) found ≡ Some shown
          → IsShownAgain again table name shown.number
      found_at number None there e = absurd (no_Some e)
      found_at number (Some node) there e = under number node (again node) there refl e

      at : (current : Option ℕ)
          → option_and_then (λ number. option_and_then (λ (node : Node). option_and_then (λ (n : Node). Some (record { number = number; node = n })) (again node)) (fin.get table.nodes number)) current ≡ Some shown
          → IsShownAgain again table name shown.number
      at None e = absurd (no_Some e)
      at (Some number) e = found_at number (fin.get table.nodes number) refl e

  pub IsShownAgain-number : (number : ℕ) → number_shown again table name ≡ Some number → IsShownAgain again table name number
  IsShownAgain-number number e = by (current_shown again table name) refl e
    where
      by : (o : Option Numbered) → current_shown again table name ≡ o → option_map (λ (shown : Numbered). shown.number) o ≡ Some number → IsShownAgain again table name number
      by None is e = absurd (no_Some e)
      by (Some shown) is e = subst (IsShownAgain again table name) (same_Some e) (IsShownAgain-shown shown is)

  -- or it is shown by a new one
  pub shown_by_none : number_shown again table name ≡ None → current_shown again table name ≡ None
  shown_by_none e = by (current_shown again table name) e
    where
      by : (o : Option Numbered) → option_map (λ (shown : Numbered). shown.number) o ≡ None → o ≡ None
      by None e = refl
      by (Some shown) e = absurd (no_Some (sym e))

-- a node that is there, looked up once more
pub looked_there : (table : NodeTable) (number : ℕ) (node : Node) → fin.get table.nodes number ≡ Some node → looked table number ≡ with_inode table number (looked_up node)
looked_there table number node there = ap (λ (found : Option Node). option_map_or (λ (inode : Node). with_inode table number (looked_up inode)) found table) there

-- what is known of the table once the name was shown by this node
pub record IsShown (table after : NodeTable) (expected : Numbered) (whole : NodeTable) (number : ℕ) (node : Node) : Type 0 where
  pub table_is : after ≡ whole
  pub there : fin.get after.nodes number ≡ Some node
  pub shown : expected ≡ record { number = number; node = node }

-- ---- a directory
module _ (table : NodeTable) (name : List ℕ) where
  pub directory_shown : (number : ℕ) (after : NodeTable) (s : IsShownAgain directory_again table name number) → after ≡ looked table number
      → IsShown table after (directory_by table name) (after_directory table name) number s.shown
  directory_shown number after s is =
      let same : looked_up s.node ≡ s.shown = same_Some s.turned in
      let now : after ≡ with_inode table number s.shown = is ∙ looked_there table number s.node s.there ∙ ap (with_inode table number) same in
      record {
        table_is = now ∙ sym (ap (λ o. with_shown_or_new table o (new_directory name)) s.found);
        there = ap (λ (t : NodeTable). fin.get t.nodes number) now ∙ number_put_same table.nodes number s.shown;
        shown = ap (λ o. shown_or_new table o (new_directory name)) s.found;
      }

-- ---- an object
-- a node that stands for the object has the parts of a file, which are refreshed
pub record Refreshes (meta : Metadata) (moment : ℕ) (node shown : Node) : Type 0 where
  pub file : File
  pub has : node.file ≡ Some file
  pub is : looked_up (record node { file = Some (refreshed meta moment file) }) ≡ shown

pub Refreshes-again : (meta : Metadata) (moment : ℕ) (node shown : Node) → object_again meta moment node ≡ Some shown → Refreshes meta moment node shown
Refreshes-again meta moment node shown e = by node.file refl e
  where
    on : (file : File) → node.file ≡ Some file → (b : Bool)
        → (if b then Some (looked_up (record node { file = Some (refreshed meta moment file) })) else None) ≡ Some shown → Refreshes meta moment node shown
    on file has true e = record { file = file; has = has; is = same_Some e }
    on file has false e = absurd (no_Some e)

    by : (file : Option File) → node.file ≡ file
        → option_and_then (λ (f : File). if stands_for meta moment f then Some (looked_up (record node { file = Some (refreshed meta moment f) })) else None) file ≡ Some shown
        → Refreshes meta moment node shown
    by None has e = absurd (no_Some e)
    by (Some file) has e = on file has (stands_for meta moment file) e

-- the table once the file of a node was refreshed
abbrev pub refreshed_at : NodeTable → ℕ → Metadata → ℕ → NodeTable
refreshed_at table number meta moment = option_map_or (λ (file : File). with_file table number (refreshed meta moment file)) (file_of table number) table

module _ (table : NodeTable) (name : List ℕ) (meta : Metadata) (moment : ℕ) (number : ℕ) (s : IsShownAgain (object_again meta moment) table name number) where
  abbrev pub refreshes : Refreshes meta moment s.node s.shown
  refreshes = Refreshes-again meta moment s.node s.shown s.turned

  abbrev pub refreshed_node : Node
  refreshed_node = record s.node { file = Some (refreshed meta moment refreshes.file) }

  refreshed_table : refreshed_at table number meta moment ≡ with_inode table number refreshed_node
  refreshed_table =
      ap (λ (found : Option File). option_map_or (λ (file : File). with_file table number (refreshed meta moment file)) found table)
      (ap (option_and_then (λ (inode : Node). inode.file)) s.there ∙ refreshes.has)
      ∙ ap (λ (found : Option Node). option_map_or (λ (inode : Node). with_inode table number (record inode { file = Some (refreshed meta moment refreshes.file) })) found table) s.there

  -- the node is still there
  pub refreshed_there : (first : NodeTable) → first ≡ refreshed_at table number meta moment → fin.get first.nodes number ≡ Some refreshed_node
  refreshed_there first is = ap (λ (t : NodeTable). fin.get t.nodes number) (is ∙ refreshed_table) ∙ number_put_same table.nodes number refreshed_node

  pub object_shown : (first after : NodeTable) → first ≡ refreshed_at table number meta moment → after ≡ looked first number
      → IsShown table after (shown_by table name meta moment) (after_showing table name meta moment) number s.shown
  object_shown first after is then_is =
      let now : after ≡ with_inode table number s.shown =
      then_is ∙ looked_there first number refreshed_node (refreshed_there first is)
      ∙ ap (λ (t : NodeTable). with_inode t number (looked_up refreshed_node)) (is ∙ refreshed_table)
      ∙ ap (λ nodes. record table { nodes = nodes }) (put_twice table.nodes number refreshed_node (looked_up refreshed_node))
      ∙ ap (with_inode table number) refreshes.is in
      record {
        table_is = now ∙ sym (ap (λ o. with_shown_or_new table o (new_node name meta moment)) s.found);
        there = ap (λ (t : NodeTable). fin.get t.nodes number) now ∙ number_put_same table.nodes number s.shown;
        shown = ap (λ o. shown_or_new table o (new_node name meta moment)) s.found;
      }

-- ---- what is told of a node that is there
pub is_there : (table : NodeTable) (number : ℕ) (node : Node) → fin.get table.nodes number ≡ Some node → IsSome (fin.get table.nodes number)
is_there table number node there = ap is_some there

pub entry_told : (config : Config) (table : NodeTable) (number : ℕ) (node : Node) (staged : Option StagedContent) (entry : EntryOut) → fin.get table.nodes number ≡ Some node
    → IfSome (fin.get table.nodes number) (λ inode. entry ≡ entry_of config number inode staged) → entry ≡ entry_of config number node staged
entry_told config table number node staged entry there told = subst (λ (found : Option Node). IfSome found (λ inode. entry ≡ entry_of config number inode staged)) there told

-- a new node is there
pub granted_there : (table after : NodeTable) (number : ℕ) (node : Node) → number ≡ table.next → after ≡ granted table node → fin.get after.nodes number ≡ Some node
granted_there table after number node is made =
    ap (λ (t : NodeTable). fin.get t.nodes number) made ∙ ap (fin.get (fin.insert table.nodes table.next node)) is ∙ number_put_same table.nodes table.next node

pub entry_granted : (config : Config) (table after : NodeTable) (number : ℕ) (node : Node) (entry : EntryOut) → number ≡ table.next → after ≡ granted table node
    → IfSome (fin.get after.nodes number) (λ inode. entry ≡ entry_of config number inode None) → entry ≡ entry_of config table.next node None
entry_granted config table after number node entry is made told =
    entry_told config after number node None entry (granted_there table after number node is made) told ∙ ap (λ n. entry_of config n node None) is

-- ---- the entry of an object
module _ (config : Config) (mount : MountModel) (name : List ℕ) (meta : Metadata) (moment : ℕ) where
  -- of a node that shows it again
  pub entry_again : (number : ℕ) → (s : IsShownAgain (object_again meta moment) mount.table name number)
      → entry_of config number s.shown (fin.get mount.staged number) ≡ object_entry config mount name meta moment
  entry_again number s =
      sym (ap (λ o. option_map_or (λ (shown : Numbered). entry_of config shown.number shown.node (fin.get mount.staged shown.number)) o (entry_of config mount.table.next (new_node name meta moment) None)) s.found)

  -- or of a new one
  pub entry_new : None ≡ number_shown (object_again meta moment) mount.table name
      → entry_of config mount.table.next (new_node name meta moment) None ≡ object_entry config mount name meta moment
  entry_new none =
      sym (ap (λ o. option_map_or (λ (shown : Numbered). entry_of config shown.number shown.node (fin.get mount.staged shown.number)) o (entry_of config mount.table.next (new_node name meta moment) None))
      (shown_by_none (object_again meta moment) mount.table name (sym none)))
