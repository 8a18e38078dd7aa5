-- What contracts see of a table, and what holds of each.
use Rattle.std.specs.Prelude.{◌≡◌, ◌≤◌, ◌+◌, ◌^◌, ℕ, Some, refl}
use Rattle.std.specs.Coded.{Coded, code_by, coded×, coded_ℕ}
use Rattle.std.specs.FinMap as fin
use Rattle.inode_spec.specs.Inodes.{Inode, Inodes, IsTable}
use Rattle.spare_maps.specs.SpareMaps.{Numbered, Named}
use Rattle.inode_table.specs.Codes.{inodes_code}

-- the nodes, and for how many more look-ups there is room
pub record TableState (F : Type 0) : Type 0 where
  pub table : Inodes F
  pub spare : ℕ

abbrev pub table_code : {F : Type 0} → Coded F → Coded (TableState F)
table_code {F} file = code_by (Inodes F × ℕ) (coded× (inodes_code file) coded_ℕ) (λ t. (t.table, t.spare)) (λ p. record { table = p.0; spare = p.1 }) (λ _. refl)

-- the most look-ups that a table ever gives
abbrev pub most_lookups : ℕ
most_lookups = 2 ^ 48

-- the table that the two maps and the next number make
abbrev pub table_of : {F : Type 0} → Numbered (Inode F) → Named → ℕ → Inodes F
table_of nodes current next = record { nodes = nodes.map; current = current.map; next = next }

-- It is one. No node has more look-ups than were given, nor were more nodes given, and there is no room for more than the
-- most; and both maps have the room.
pub record IsHeldTable {F : Type 0} (nodes : Numbered (Inode F)) (current : Named) (next given room : ℕ) : Type 0 where
  pub table : IsTable (table_of nodes current next)
  pub counts : (number : ℕ) (inode : Inode F) → fin.get nodes.map number ≡ Some inode → inode.lookups ≤ given
  pub numbers : next ≤ given + 2
  pub bounded : given + room ≤ most_lookups
  pub node_room : room ≤ nodes.spare
  pub name_room : room ≤ current.spare
