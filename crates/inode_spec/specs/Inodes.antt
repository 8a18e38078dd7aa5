-- What contracts see of a table of nodes, and what each call makes of it. A node is a number that the kernel holds: it
-- was given it by so many look-ups, and gives them back by FORGET (fuse.h: `nodeid`, and `nlookup` of `fuse_forget_in`).
use Rattle.std.specs.Prelude.{◌≡◌, ℕ, ◌+◌, ◌-◌, ◌<◌, ◌≤◌, Bool, true, false, ◌&&◌, ◌||◌, List, [], Option, Some, None, IsSome, nat_lt, nat_le, nat_eq, ◌==◌, if◌then◌else◌, is_some, option_and_then}
use Rattle.std.specs.Cmp.Lexicographic.{slice_cmp}
use Rattle.std.specs.FinMap as fin
use Rattle.std.specs.Option.{option_map_or}
use Rattle.std.specs.Ordering.{nat_cmp}
use Rattle.object_names.specs.declared.shown.NodeKind.{NodeKind}
use Rattle.object_names.specs.declared.shown.NodeKind.TheVariants.{Dir}

-- A node: what it is, the name of its object (a directory's placeholder, empty for the root), how many look-ups of it
-- the kernel holds, and what the mount keeps of a file or symlink, which a directory has none of.
pub record Inode (F : Type 0) : Type 0 where
  pub kind : NodeKind
  pub name : List ℕ
  pub lookups : ℕ
  pub file : Option F

abbrev pub Nodes : Type 0 → Type 0
Nodes F = fin.FinMap nat_cmp (Inode F)

abbrev pub Names : Type 0
Names = fin.FinMap (slice_cmp nat_cmp) ℕ

-- The nodes that are there by their numbers, the current node of each name that has one, and the number that the next
-- node gets. The current node of a name is the one that a look-up may give again. Numbers are never used again.
pub record Inodes (F : Type 0) : Type 0 where
  pub nodes : Nodes F
  pub current : Names
  pub next : ℕ

-- ---- a new table
-- the root has the number 1 (fuse.h: FUSE_ROOT_ID) and the empty name
abbrev pub root_number : ℕ
root_number = 1

abbrev pub root : {F : Type 0} → Inode F
root = record { kind = Dir; name = []; lookups = 0; file = None }

-- the root alone, current of no name
abbrev pub first_table : {F : Type 0} → Inodes F
first_table = record { nodes = fin.insert fin.empty root_number root; current = fin.empty; next = 2 }

-- ---- what is asked of a node
-- the root is live, and every node of which the kernel holds a look-up
abbrev pub is_live : {F : Type 0} → ℕ → Inode F → Bool
is_live number inode = number == root_number || nat_lt 0 inode.lookups

-- its look-ups, none where it is not there
abbrev pub lookups_of : {F : Type 0} → Inodes F → ℕ → ℕ
lookups_of {F} table number = option_map_or (λ (inode : Inode F). inode.lookups) (fin.get table.nodes number) 0

-- its parts of a file, none where it is not there or is a directory
abbrev pub file_of : {F : Type 0} → Inodes F → ℕ → Option F
file_of {F} table number = option_and_then (λ (inode : Inode F). inode.file) (fin.get table.nodes number)

-- ---- what calls make of the table
-- the node under its number
abbrev pub with_inode : {F : Type 0} → Inodes F → ℕ → Inode F → Inodes F
with_inode table number inode = record table { nodes = fin.insert table.nodes number inode }

-- a new node under the next number, which becomes the current one of its name
abbrev pub granted : {F : Type 0} → Inodes F → Inode F → Inodes F
granted table inode = record {
  nodes = fin.insert table.nodes table.next inode;
  current = fin.insert table.current inode.name table.next;
  next = table.next + 1;
}

-- one more look-up
abbrev pub looked_up : {F : Type 0} → Inode F → Inode F
looked_up inode = record inode { lookups = inode.lookups + 1 }

abbrev pub looked : {F : Type 0} → Inodes F → ℕ → Inodes F
looked {F} table number = option_map_or (λ (inode : Inode F). with_inode table number (looked_up inode)) (fin.get table.nodes number) table

-- other parts of a file, of a node that is there
abbrev pub with_file : {F : Type 0} → Inodes F → ℕ → F → Inodes F
with_file {F} table number file =
    option_map_or (λ (inode : Inode F). with_inode table number (record inode { file = Some file })) (fin.get table.nodes number) table

-- a file or symlink stays while a handle holds it; a directory does not, and its handles go on without it
abbrev pub left_without : {F : Type 0} → Nodes F → ℕ → Bool → Inode F → Nodes F
left_without nodes number held inode =
    if held && is_some inode.file then fin.insert nodes number (record inode { lookups = 0 }) else fin.remove nodes number

-- the names, where this node is no longer the current one of its own
abbrev pub without_current : Names → List ℕ → ℕ → Names
without_current current name number = if option_map_or (nat_eq number) (fin.get current name) false then fin.remove current name else current

-- so many look-ups less; a node that has none left is live no more
abbrev pub forgotten_at : {F : Type 0} → Inodes F → ℕ → ℕ → Bool → Inode F → Inodes F
forgotten_at table number count held inode =
    if nat_le inode.lookups count
    then record table { nodes = left_without table.nodes number held inode; current = without_current table.current inode.name number }
    else with_inode table number (record inode { lookups = inode.lookups - count })

-- the root is never dropped, and a node without look-ups, or one that is not there, has none to take away
abbrev pub forgotten : {F : Type 0} → Inodes F → ℕ → ℕ → Bool → Inodes F
forgotten {F} table number count held =
    if number == root_number then table
    else option_map_or (λ (inode : Inode F). if inode.lookups == 0 then table else forgotten_at table number count held inode) (fin.get table.nodes number) table

-- no handle holds a node any more: one that is not live goes
abbrev pub let_go : {F : Type 0} → Inodes F → ℕ → Inodes F
let_go {F} table number =
    option_map_or (λ (inode : Inode F). if is_live number inode then table else record table { nodes = fin.remove table.nodes number }) (fin.get table.nodes number) table

-- a name has no current node
abbrev pub detached : {F : Type 0} → Inodes F → List ℕ → Inodes F
detached table name = record table { current = fin.remove table.current name }

-- a node becomes the current one of its name
abbrev pub made_current : {F : Type 0} → Inodes F → ℕ → List ℕ → Inodes F
made_current table number name = record table { current = fin.insert table.current name number }

-- ---- what holds of every table
-- the node is there, has this name, and is live
pub record IsLiveUnder {F : Type 0} (table : Inodes F) (name : List ℕ) (number : ℕ) : Type 0 where
  pub inode : Inode F
  pub there : fin.get table.nodes number ≡ Some inode
  pub named : inode.name ≡ name
  pub live : is_live number inode ≡ true

-- The root is there. Every node has a number that was given before, and a name's current node is live and has that name.
pub record IsTable {F : Type 0} (table : Inodes F) : Type 0 where
  pub first : 2 ≤ table.next
  pub root_stays : IsSome (fin.get table.nodes root_number)
  pub given : (number : ℕ) (inode : Inode F) → fin.get table.nodes number ≡ Some inode → number < table.next
  pub own_name : (name : List ℕ) (number : ℕ) → fin.get table.current name ≡ Some number → IsLiveUnder table name number
