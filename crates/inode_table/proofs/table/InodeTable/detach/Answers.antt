-- A name without a current node.
use Rattle.std.proofs.Common.{refl, arith}
use Rattle.inode_spec.proofs.TableLaws.{IsTable-detached}
use Rattle.inode_table.specs.Tables.{table_of}
use Rattle.inode_table.proofs.HeldLaws.{IsTable-of}
use Rattle.inode_table.proofs.table.InodeTable.detach.Goals as goal

pub invariant_of-self : goal.invariant_of-self
invariant_of-self g c =
    let was = table_of c.self.inside.nodes c.self.inside.current c.self.inside.next in
    record {
      table = IsTable-of c.self.inside.nodes c.remove.new.self c.self.inside.next _ _ refl c.remove.ensures.map (IsTable-detached was c.args.name.now c.self.invariant.table);
      counts = c.self.invariant.counts;
      numbers = c.self.invariant.numbers;
      bounded = c.self.invariant.bounded;
      node_room = c.self.invariant.node_room;
      name_room = omega (arith, c.remove.ensures.spare, c.self.invariant.name_room);
    }
