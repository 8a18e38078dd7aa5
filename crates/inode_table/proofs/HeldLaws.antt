-- What holds of the two maps of a table after one change.
use Rattle.std.proofs.Common.{◌≡◌, ◌≢◌, ◌≤◌, ◌⊎◌, inl, inr, ℕ, Bool, true, false, Option, Some, None, refl, sym, ap, subst, ◌∙◌, is_some, ◌&&◌, nat_cmp, arith}
use Rattle.std.specs.Cmp.{nat_cmp_total}
use Rattle.std.specs.FinMap as fin
use Rattle.std.specs.Option.{option_map_or}
use Rattle.spare_maps.proofs.FinMaps.{get-insert_number, number_put, number_put_same, number_taken, number_taken_same}
use Rattle.spare_maps.specs.SpareMaps.{Numbered, Named}
use Rattle.inode_spec.proofs.Cases.{on_test, where_kept}
use Rattle.inode_spec.proofs.TableLaws.{IsTable-spent, IsTable-written}
use Rattle.inode_spec.specs.Inodes.{Inode, Inodes, Nodes, Names, IsTable, root_number, with_inode, with_file, left_without, without_current}
use Rattle.inode_table.specs.Tables.{TableState, IsHeldTable, table_of}

-- ---- what is there
pub put_there : {X : Type 0} (m : fin.FinMap nat_cmp X) (k : ℕ) (v : X) → is_some (fin.get (fin.insert m k v) k) ≡ true
put_there m k v = ap is_some (number_put_same m k v)

pub taken_away : {X : Type 0} (m : fin.FinMap nat_cmp X) (k : ℕ) → is_some (fin.get (fin.remove m k) k) ≡ false
taken_away m k = ap is_some (number_taken_same m k)

-- ---- the table
-- that the maps make whose contents these are
pub IsTable-of : {F : Type 0} (nodes : Numbered (Inode F)) (current : Named) (next : ℕ) (m : Nodes F) (n : Names) → nodes.map ≡ m → current.map ≡ n
    → IsTable (record { nodes = m; current = n; next = next }) → IsTable (table_of nodes current next)
IsTable-of nodes current next m n e f t =
    subst (λ x. IsTable (record { nodes = x; current = current.map; next = next })) (sym e) (subst (λ x. IsTable (record { nodes = m; current = x; next = next })) (sym f) t)

-- a node that was found is spent
IsTable-found_spent : {F : Type 0} (table : Inodes F) (number : ℕ) (held : Bool) (found : Option (Inode F)) → IsTable table → number ≢ root_number
    → fin.get table.nodes number ≡ found
    → IsTable (record table {
      nodes = option_map_or (left_without table.nodes number held) found table.nodes;
      current = option_map_or (λ inode. without_current table.current inode.name number) found table.current;
    })
IsTable-found_spent table number held None t other e = t
IsTable-found_spent table number held (Some inode) t other e = IsTable-spent table number held inode t other e

-- ---- no node has more look-ups than this
abbrev pub AreAtMost : {F : Type 0} → Nodes F → ℕ → Type 0
AreAtMost {F} nodes most = (number : ℕ) (inode : Inode F) → fin.get nodes number ≡ Some inode → inode.lookups ≤ most

pub AreAtMost-empty : {F : Type 0} (most : ℕ) → AreAtMost {F = F} fin.empty most
AreAtMost-empty {F} most q inode found =
    absurd (let none : fin.get {X = Inode F} {R = nat_cmp} fin.empty q ≡ None = fin.get-empty nat_cmp q in let some : fin.get {X = Inode F} {R = nat_cmp} fin.empty q ≡ Some inode = found in cc)

module _ {F : Type 0} (nodes : Nodes F) (before after : ℕ) (later : before ≤ after) (counts : AreAtMost nodes before) where
  -- a node with no more look-ups was put
  pub AreAtMost-put : (number : ℕ) (new : Inode F) → new.lookups ≤ after → AreAtMost (fin.insert nodes number new) after
  AreAtMost-put number new fits q inode found = by (number_put nodes number new inode q found)
    where
      by : ((q ≡ number) × (new ≡ inode)) ⊎ (fin.get nodes q ≡ Some inode) → inode.lookups ≤ after
      by (inl (is, same)) = subst (λ (n : Inode F). n.lookups ≤ after) same fits
      by (inr was) = let h : inode.lookups ≤ before = counts q inode was in omega arith

  pub AreAtMost-taken : (number : ℕ) → AreAtMost (fin.remove nodes number) after
  AreAtMost-taken number q inode found = let h : inode.lookups ≤ before = counts q inode (number_taken nodes number inode q found).1 in omega arith

  -- a node that was found was left without look-ups, or dropped
  pub AreAtMost-spent : (number : ℕ) (held : Bool) (found : Option (Inode F)) → AreAtMost (option_map_or (left_without nodes number held) found nodes) after
  AreAtMost-spent number held None = λ q inode found. let h : inode.lookups ≤ before = counts q inode found in omega arith
  AreAtMost-spent number held (Some old) = on_test (λ left. AreAtMost left after) (held && is_some old.file)
      (fin.insert nodes number (record old { lookups = 0 })) (fin.remove nodes number)
      (λ _. AreAtMost-put number (record old { lookups = 0 }) (omega arith))
      (λ _. AreAtMost-taken number)

-- ---- a node that is spent
pub IsHeldTable-spent : {F : Type 0} (nodes : Numbered (Inode F)) (current : Named) (next given room : ℕ) → IsHeldTable nodes current next given room
    → (number : ℕ) (held : Bool) (new_nodes : Numbered (Inode F)) (new_current : Named) → number ≢ root_number
    → new_nodes.map ≡ option_map_or (left_without nodes.map number held) (fin.get nodes.map number) nodes.map → new_nodes.spare ≡ nodes.spare
    → new_current.map ≡ option_map_or (λ inode. without_current current.map inode.name number) (fin.get nodes.map number) current.map → new_current.spare ≡ current.spare
    → IsHeldTable new_nodes new_current next given room
IsHeldTable-spent nodes current next given room is number held new_nodes new_current other left node_room names name_room = record {
  table = IsTable-of new_nodes new_current next _ _ left names (IsTable-found_spent (table_of nodes current next) number held (fin.get nodes.map number) is.table other refl);
  counts = subst (λ m. AreAtMost m given) (sym left) (AreAtMost-spent nodes.map given given (omega arith) is.counts number held (fin.get nodes.map number));
  numbers = is.numbers;
  bounded = is.bounded;
  node_room = omega (arith, node_room, is.node_room);
  name_room = omega (arith, name_room, is.name_room);
}

-- ---- a node that is written anew, with its name and its look-ups
pub IsHeldTable-written : {F : Type 0} (nodes : Numbered (Inode F)) (current : Named) (next given room : ℕ) → IsHeldTable nodes current next given room
    → (number : ℕ) (inode new : Inode F) → fin.get nodes.map number ≡ Some inode → new.name ≡ inode.name → new.lookups ≡ inode.lookups
    → IsHeldTable (record { map = fin.insert nodes.map number new; spare = nodes.spare }) current next given room
IsHeldTable-written nodes current next given room held number inode new there name lookups = record {
  table = IsTable-written (table_of nodes current next) number inode new held.table there name (λ has. omega (arith, lookups));
  counts = let old = held.counts number inode there in AreAtMost-put nodes.map given given (omega arith) held.counts number new (omega (arith, old, lookups));
  numbers = held.numbers;
  bounded = held.bounded;
  node_room = held.node_room;
  name_room = held.name_room;
}

-- what is under a number put there again
pub put_again : {X : Type 0} (m : fin.FinMap nat_cmp X) (k : ℕ) (v : X) → fin.get m k ≡ Some v → fin.insert m k v ≡ m
put_again m k v there = fin.same_map nat_cmp_total fin.nat_cmp-IsAntisymmetric _ _ (λ q.
    get-insert_number m k v q ∙ where_kept q k (Some v) (fin.get m q) (λ p. sym (ap (fin.get m) p ∙ there)))

-- a node that was found, with other parts of a file
pub file_written : {F : Type 0} (state : TableState F) (number : ℕ) (inode : Inode F) (file : F) → fin.get state.table.nodes number ≡ Some inode
    → record state { table = with_inode state.table number (record inode { file = Some file }) } ≡ record state { table = with_file state.table number file }
file_written {F} state number inode file there =
    sym (ap (λ (found : Option (Inode F)). record state {
      table = option_map_or (λ (i : Inode F). with_inode state.table number (record i { file = Some file })) found state.table;
    }) there)
