-- What a node, or a table, ends as, once the parts of a file were lent.
use Rattle.std.specs.Prelude.{ℕ, Option, Some}
use Rattle.std.specs.Borrow.{LendsIf, MutBor, Fml, RattleType}
use Rattle.inode_spec.specs.Inodes.{Inode, with_file}
use Rattle.inode_table.specs.Tables.{TableState}
use Rattle.inode_table.specs.contracts.inode.Inode as inode
use Rattle.inode_table.specs.contracts.table.InodeTable as table

-- the node has the last value written through r as its file
abbrev pub LendsFile : (F : RattleType) → MutBor (Inode F.Denot) → Option (MutBor F.Denot) → Fml
LendsFile F i r = LendsIf (inode.the_row F) F i r (λ file. record i.now { file = Some file }) i.now

-- the node under the number has it
abbrev pub LendsFileOf : (F : RattleType) → MutBor (TableState F.Denot) → ℕ → Option (MutBor F.Denot) → Fml
LendsFileOf F t number r = LendsIf (table.the_row F) F t r (λ file. record t.now { table = with_file t.now.table number file }) t.now
